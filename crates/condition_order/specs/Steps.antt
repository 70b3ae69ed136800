-- An order that is not finished, as plain data. No public clause cites this.
use Rattle.std.specs.Prelude.{List, []}
use Rattle.soar_sym.specs.Words.{Texts}
use Rattle.soar_wm.specs.declared.element.Element.{Element}
use Rattle.condition_order.specs.declared.order.Order.{Order}
use Rattle.defs_soar.specs.ConditionOrder.{Ordered, states_of}

abbrev pub order_seen : Order → Ordered
order_seen o = record { taken = o.taken.items; left = o.left.items; places = o.places.items }

-- before the first ground is taken
abbrev pub first_order : Texts → List Element → Ordered
first_order words grounds = record { taken = []; left = grounds; places = states_of words grounds }
