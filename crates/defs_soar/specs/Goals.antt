-- Goals and their own elements (Soar manual, chapter 2, impasses and substates).
use Rattle.std.specs.Prelude.{◌&&◌, not, Bool, false, pos, List, [], ◌∷◌, ◌++◌, map, filter, length, Option, Some, None}
use Rattle.soar_sym.specs.Equality.{symbol_eq}
use Rattle.soar_sym.specs.declared.symbol.Sym.{Sym}
use Rattle.soar_sym.specs.declared.symbol.Sym.TheVariants.{Int}
use Rattle.soar_sym.specs.declared.symbol.Triple.{Triple}
use Rattle.defs_soar.specs.declared.goal.Impasse.{Impasse}
use Rattle.defs_soar.specs.declared.goal.Impasse.TheVariants as impasse
use Rattle.defs_soar.specs.declared.goal.Item.{Item}
use Rattle.defs_soar.specs.declared.goal.Goal.{Goal}
use Rattle.defs_soar.specs.declared.goal.Selection.{Selection}
use Rattle.defs_soar.specs.Architecture.{io_identifier, input_identifier, output_identifier, io_word, input_link_word, output_link_word, state_word, nil_word, superstate_word, type_word, operator_word, impasse_word, choices_word, attribute_word, quiescence_word, t_word, item_word, item_count_word, non_numeric_word, non_numeric_count_word, tie_word, conflict_word, constraint_failure_word, no_change_word, multiple_word, none_word}
use Rattle.defs_soar.specs.Sorted.{has_symbol}

abbrev pub goal_ids : List Goal → List Sym
goal_ids goals = map (λ goal. goal.id) goals

abbrev pub is_goal : List Goal → Sym → Bool
is_goal goals s = has_symbol (goal_ids goals) s

-- the slot is the operator slot of a goal
abbrev pub is_operator_slot : List Goal → Sym → Sym → Bool
is_operator_slot goals id attr = symbol_eq attr operator_word && is_goal goals id

abbrev pub plain_triple : Sym → Sym → Sym → Triple
plain_triple id attr value = record { id = id; attr = attr; value = value; accept = false }

-- ---- the elements of a substate, apart from its items

abbrev pub impasse_of : Impasse → Sym
impasse_of impasse.Top = none_word
impasse_of impasse.Tie = tie_word
impasse_of impasse.Conflict = conflict_word
impasse_of impasse.Constraint = constraint_failure_word
impasse_of impasse.StateNoChange = no_change_word
impasse_of impasse.OperatorNoChange = no_change_word

abbrev pub choices_of : Impasse → Sym
choices_of impasse.Top = none_word
choices_of impasse.Tie = multiple_word
choices_of impasse.Conflict = multiple_word
choices_of impasse.Constraint = constraint_failure_word
choices_of impasse.StateNoChange = none_word
choices_of impasse.OperatorNoChange = none_word

abbrev pub attribute_of : Impasse → Sym
attribute_of impasse.StateNoChange = state_word
attribute_of other = operator_word

abbrev pub item_elements : Sym → List Item → List Triple
item_elements id items = map (λ item. plain_triple id item_word item.value) items

abbrev pub without_number : List Item → List Item
without_number items = filter (λ item. not item.numeric) items

-- a tie tells how many items there are, and which of them have no number
abbrev pub tie_elements : Sym → List Item → List Triple
tie_elements id items =
    plain_triple id item_count_word (Int (pos (length items))) ∷ map (λ item. plain_triple id non_numeric_word item.value) (without_number items)
    ++ plain_triple id non_numeric_count_word (Int (pos (length (without_number items)))) ∷ []

abbrev pub more_elements : Sym → Impasse → List Item → List Triple
more_elements id impasse.Tie items = item_elements id items ++ tie_elements id items
more_elements id other items = item_elements id items

-- the elements of a goal below another
abbrev pub substate : Sym → Sym → Impasse → List Item → List Triple
substate superstate id why items =
    plain_triple id type_word state_word ∷ plain_triple id superstate_word superstate ∷ plain_triple id quiescence_word t_word
    ∷ plain_triple id impasse_word (impasse_of why) ∷ plain_triple id choices_word (choices_of why) ∷ plain_triple id attribute_word (attribute_of why)
    ∷ more_elements id why items

-- the top goal's elements, with those of its links
abbrev pub top_elements : Sym → List Triple
top_elements id =
    plain_triple io_identifier input_link_word input_identifier ∷ plain_triple io_identifier output_link_word output_identifier ∷ plain_triple id io_word io_identifier
    ∷ plain_triple id superstate_word nil_word ∷ plain_triple id type_word state_word ∷ []

abbrev pub elements_below : Sym → List Goal → List Triple
elements_below superstate [] = []
elements_below superstate (goal ∷ goals) = substate superstate goal.id goal.impasse goal.items ++ elements_below goal.id goals

-- the elements of all goals, from the top
abbrev pub goal_elements : List Goal → List Triple
goal_elements [] = []
goal_elements (top ∷ goals) = top_elements top.id ++ elements_below top.id goals

abbrev pub selected_by_goal : Goal → Option Selection → List Triple
selected_by_goal goal None = []
selected_by_goal goal (Some selection) = plain_triple goal.id operator_word selection.operator ∷ []

abbrev pub selected_element : Goal → List Triple
selected_element goal = selected_by_goal goal goal.selected
