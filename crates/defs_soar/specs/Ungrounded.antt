-- Identifiers of an explanation that have no variable in a learned rule (the cases and their order are this engine's).
--
-- Each identifier of the grounds, of tests and negations that are taken over, and of results has to have a variable, which the order of
-- conditions gives. Alone what the chain made may have none in results: there it is a new identifier each time, where results lead to it.
use Rattle.std.specs.Prelude.{ℕ, ◌&&◌, not, List, [], ◌∷◌, flat_map, filter, length, Option, Some, None, if◌then◌else◌}
use Rattle.soar_sym.specs.Words.{Texts}
use Rattle.soar_sym.specs.declared.symbol.Sym.{Sym}
use Rattle.soar_rule.specs.Symbols.{constants_of_condition}
use Rattle.defs_match.specs.Element.{Element}
use Rattle.defs_soar.specs.declared.preference.Wish.{Wish}
use Rattle.defs_soar.specs.CarriedTests.{Carried, carried_tests}
use Rattle.defs_soar.specs.ChainIdentifiers.{is_made_by}
use Rattle.defs_soar.specs.ConditionOrder.{ordered_grounds}
use Rattle.defs_soar.specs.Dependencies.{symbols_of_referent}
use Rattle.defs_soar.specs.History.{ChainOf}
use Rattle.defs_soar.specs.Negations.{negations_taken_over}
use Rattle.defs_soar.specs.Results.{with_each_symbol}
use Rattle.defs_soar.specs.Sorted.{has_symbol}
use Rattle.defs_soar.specs.Values.{is_identifier}
use Rattle.soar_rule.specs.Repeat.{until_same}
use Rattle.defs_soar.specs.Levels.{same_length}

abbrev pub or_else : {A : Type 0} → Option A → Option A → Option A
or_else (Some a) later = Some a
or_else None later = later

abbrev pub symbols_of_element : Element → List Sym
symbols_of_element e = e.id ∷ e.attr ∷ e.value ∷ []

abbrev pub symbols_of_carried : Carried → List Sym
symbols_of_carried t = t.field ∷ t.referent ∷ []

-- the first identifier among these that has no variable
abbrev pub first_without : List Sym → List Sym → Option Sym
first_without places [] = None
first_without places (s ∷ symbols) = if is_identifier s && not (has_symbol places s) then Some s else first_without places symbols

-- identifiers made by the chain that new results lead to: values and referents of results whose identifier has a variable, step by step
abbrev pub led_to_by : List Wish → List Sym → List Sym
led_to_by wishes known = with_each_symbol known (flat_map (λ w. if has_symbol known w.id then w.value ∷ symbols_of_referent w.referent else []) wishes)

abbrev pub led_to : List Sym → List Wish → List Sym
led_to places wishes = until_same same_length (length wishes) (led_to_by wishes) places

-- what the chain made may stand in a result, as its identifier where results lead to it, but never as its attribute
abbrev pub wrong_in_wish : ChainOf → List Sym → List Sym → Wish → Option Sym
wrong_in_wish c places led w =
    or_else (wrong_id w.id) (or_else (first_without places (w.attr ∷ [])) (first_without_made (w.value ∷ symbols_of_referent w.referent)))
  where
    wrong_id : Sym → Option Sym
    wrong_id s = if is_made_by c s then (if has_symbol led s then None else Some s) else first_without places (s ∷ [])

    first_without_made : List Sym → Option Sym
    first_without_made symbols = first_without places (filter (λ s. not (is_made_by c s)) symbols)

abbrev pub wrong_in_wishes : ChainOf → List Sym → List Sym → List Wish → Option Sym
wrong_in_wishes c places led [] = None
wrong_in_wishes c places led (w ∷ wishes) = or_else (wrong_in_wish c places led w) (wrong_in_wishes c places led wishes)

-- in the grounds, then in the carried tests, then in the negations, then in the results
abbrev pub ungrounded : Texts → ChainOf → ℕ → Option Sym
ungrounded words c depth =
    let places = (ordered_grounds words c.grounds).places in
    or_else (first_without places (flat_map symbols_of_element c.grounds))
    (or_else (first_without places (flat_map symbols_of_carried (carried_tests c depth)))
    (or_else (first_without places (flat_map constants_of_condition (negations_taken_over c depth))) (wrong_in_wishes c places (led_to places c.results) c.results)))
