-- An order of grounds as plain data, and grounds whose words are in the table.
use Rattle.std.specs.Prelude.{List, [], ◌∷◌}
use Rattle.soar_sym.specs.Words.{Texts, IsKnown}
use Rattle.soar_wm.specs.declared.element.Element.{Element}
use Rattle.condition_order.specs.declared.ordering.GroundOrder.{GroundOrder}
use Rattle.defs_soar.specs.ConditionOrder.{Ordered as OrderOf}

abbrev pub ordered_seen : GroundOrder → OrderOf
ordered_seen o = record { taken = o.taken; left = o.left; places = o.places }

abbrev pub AreElementsKnown : Texts → List Element → Type 0
AreElementsKnown words [] = Unit {0}
AreElementsKnown words (e ∷ elements) = (IsKnown words e.id × IsKnown words e.attr × IsKnown words e.value) × AreElementsKnown words elements
