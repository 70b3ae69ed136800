-- How firings used their elements, and which firing made an element (Soar manual, chapter 4, backtracing).
use Rattle.std.specs.Prelude.{ℕ, Bool, true, false, ◌&&◌, ◌||◌, not, min, nat_lt, List, [], ◌∷◌, map, flat_map, filter, Option, Some, None, if◌then◌else◌}
use Rattle.soar_sym.specs.Equality.{symbol_eq}
use Rattle.soar_sym.specs.declared.symbol.Sym.{Sym}
use Rattle.defs_match.specs.Element.{Element}
use Rattle.defs_match.specs.WorkingMemory.{triple_of, element_of}
use Rattle.defs_soar.specs.declared.firing.How.{How}
use Rattle.defs_soar.specs.declared.firing.How.TheVariants as how
use Rattle.defs_soar.specs.declared.firing.Used.{Used}
use Rattle.defs_soar.specs.declared.goal.Goal.{Goal}
use Rattle.defs_soar.specs.declared.goal.Item.{Item}
use Rattle.defs_soar.specs.declared.goal.Selection.{Selection}
use Rattle.defs_soar.specs.declared.preference.PrefKind.TheVariants as kind
use Rattle.defs_soar.specs.declared.preference.Preference.{Preference}
use Rattle.defs_soar.specs.Architecture.{operator_word, item_word}
use Rattle.defs_soar.specs.Goals.{goal_elements}
use Rattle.defs_soar.specs.History.{Reach}
use Rattle.defs_soar.specs.Levels.{level_in}
use Rattle.defs_soar.specs.Values.{is_kind, has_triple_among}

-- ---- the makers of an element

-- an acceptable row, or for a marked element a require row too
abbrev pub makes_element : Element → Preference → Bool
makes_element e row =
    symbol_eq row.wish.id e.id
    && (symbol_eq row.wish.attr e.attr && (symbol_eq row.wish.value e.value && (is_kind row.wish.kind kind.Accept || (e.accept && is_kind row.wish.kind kind.Require))))

abbrev pub least_from : ℕ → List ℕ → ℕ
least_from n [] = n
least_from n (m ∷ ms) = least_from (min n m) ms

-- the least of these numbers, 0 without one
abbrev pub least_number : List ℕ → ℕ
least_number [] = 0
least_number (n ∷ ns) = least_from n ns

-- the least-numbered firing that has a row for the element
abbrev pub maker_of : List Preference → Element → ℕ
maker_of rows e = least_number (map (λ row. row.firing) (filter (makes_element e) rows))

-- ---- how an element was used

abbrev pub is_above : Option ℕ → ℕ → Bool
is_above None depth = false
is_above (Some level) depth = nat_lt level depth

-- the marked operator element of a goal
abbrev pub marked_element : Sym → Sym → ℕ → Element
marked_element goal operator tag = record { tag = tag; id = goal; attr = operator_word; value = operator; accept = true; of_state = true }

abbrev pub used_as : Element → How → Used
used_as e h = record { element = e; how = h }

abbrev pub item_in : List Item → Sym → Option Item
item_in [] s = None
item_in (item ∷ items) s = if symbol_eq item.value s then Some item else item_in items s

-- an item, and the marked element that it names
abbrev pub item_uses : Sym → Element → Option Item → List Used
item_uses superstate e (Some item) = used_as e (how.Item item.tag) ∷ used_as (marked_element superstate item.value item.tag) how.Upper ∷ []
item_uses superstate e None = used_as e how.Architecture ∷ []

-- a goal's own element
abbrev pub own_uses : Sym → List Goal → Element → List Used
own_uses superstate [] e = used_as e how.Architecture ∷ []
own_uses superstate (goal ∷ goals) e =
    if symbol_eq goal.id e.id then (if symbol_eq e.attr item_word then item_uses superstate e (item_in goal.items e.value) else used_as e how.Architecture ∷ [])
    else own_uses goal.id goals e

-- the selection of a goal that the element tells
abbrev pub selection_told : List Goal → Element → Option Selection
selection_told [] e = None
selection_told (goal ∷ goals) e =
    if symbol_eq goal.id e.id && (symbol_eq e.attr operator_word && (not e.accept && is_selected goal.selected e.value)) then goal.selected else selection_told goals e
  where
    is_selected : Option Selection → Sym → Bool
    is_selected None s = false
    is_selected (Some selection) s = symbol_eq selection.operator s

-- a selected operator and its marked element, or an element that was made
abbrev pub made_uses : List Preference → Element → Option Selection → List Used
made_uses rows e (Some selection) =
    used_as e (how.Selected selection.tag) ∷ used_as (marked_element e.id e.value selection.tag) (how.Made selection.maker) ∷ []
made_uses rows e None = used_as e (how.Made (maker_of rows e)) ∷ []

-- an element of a firing of this depth; goals, reach and rows are those before its wave
abbrev pub uses_of : Reach → List Preference → ℕ → Element → List Used
uses_of before rows depth e =
    if nat_lt depth 2 || is_above (level_in before.goals before.reached e.id) depth then used_as e how.Upper ∷ []
    else if has_triple_among (goal_elements before.goals) (triple_of e) then own_uses e.id before.goals e
    else made_uses rows e (selection_told before.goals e)

abbrev pub element_with : List Element → ℕ → List Element
element_with elements tag = elim (element_of tag elements) [ Some e ↦ e ∷ [] | None ↦ [] ]

-- the elements of an instance, in the order of its conditions
abbrev pub elements_matched : List Element → List ℕ → List Element
elements_matched elements tags = flat_map (element_with elements) tags

abbrev pub all_uses : Reach → List Preference → ℕ → List Element → List Used
all_uses before rows depth elements = flat_map (uses_of before rows depth) elements
