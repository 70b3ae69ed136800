-- The least ground whose identifier has a variable, as one walk finds it. No public clause cites this.
use Rattle.std.specs.Prelude.{ℕ, List, [], ◌∷◌, Option, Some, None, if◌then◌else◌}
use Rattle.std.specs.Ordering.{nat_cmp, bool_cmp, ordering_then, is_lt}
use Rattle.std.specs.declared.cmp.Ordering.{Ordering}
use Rattle.soar_sym.specs.Order.{symbol_cmp}
use Rattle.soar_sym.specs.Words.{Texts, IsKnown}
use Rattle.soar_sym.specs.declared.symbol.Sym.{Sym}
use Rattle.soar_wm.specs.declared.element.Element.{Element}
use Rattle.condition_order.specs.declared.comparing.Reached.{Reached}
use Rattle.defs_soar.specs.ConditionOrder.{value_cmp, variable_place}

-- what is known of an element's words
abbrev pub IsElementKnown : Texts → Element → Type 0
IsElementKnown words e = IsKnown words e.id × IsKnown words e.attr × IsKnown words e.value

abbrev pub IsReachedKnown : Texts → Option Reached → Type 0
IsReachedKnown words None = Unit {0}
IsReachedKnown words (Some r) = IsElementKnown words r.element

-- as `ground_cmp` where both identifiers have a variable
abbrev pub reached_cmp : Texts → List Sym → Reached → Reached → Ordering
reached_cmp words places a b =
    ordering_then (ordering_then (nat_cmp a.at b.at) (symbol_cmp words a.element.attr b.element.attr))
    (ordering_then (value_cmp words places a.element b.element) (bool_cmp a.element.accept b.element.accept))

abbrev pub lesser : Texts → List Sym → Option Reached → Reached → Reached
lesser words places None other = other
lesser words places (Some least) other = if is_lt (reached_cmp words places other least) then other else least

-- the least so far, with an element whose identifier's variable has this place
abbrev pub with_reached : Texts → List Sym → Option Reached → Element → Option ℕ → Option Reached
with_reached words places least e None = least
with_reached words places least e (Some n) = Some (lesser words places least (record { at = n; element = e }))

abbrev pub least_reached : Texts → List Sym → Option Reached → List Element → Option Reached
least_reached words places least [] = least
least_reached words places least (e ∷ elements) = least_reached words places (with_reached words places least e (variable_place places e.id)) elements
