-- Decisions: operators are selected, and substates made where none can be (Soar manual, chapter 2, decision procedure).
use Rattle.std.specs.Prelude.{ℕ, suc, ◌+◌, Bool, true, false, ◌&&◌, nat_lt, not, List, [], ◌∷◌, ◌++◌, filter, length, drop, Option, Some, None, if◌then◌else◌}
use Rattle.soar_sym.specs.Equality.{symbol_eq}
use Rattle.soar_sym.specs.Letters.{last_of, with_last}
use Rattle.soar_sym.specs.Words.{Texts}
use Rattle.soar_sym.specs.declared.symbol.Sym.{Sym}
use Rattle.soar_sym.specs.declared.symbol.Sym.TheVariants.{Ident}
use Rattle.defs_match.specs.Element.{Element}
use Rattle.defs_soar.specs.declared.goal.Goal.{Goal}
use Rattle.defs_soar.specs.declared.goal.Impasse.{Impasse}
use Rattle.defs_soar.specs.declared.goal.Item.{Item}
use Rattle.defs_soar.specs.Agents.{Agent, Queues}
use Rattle.defs_soar.specs.Architecture.{state_letter, name_word}
use Rattle.defs_soar.specs.Events.{begins, decision, Event, removes, selects, substates, reaches_goal_limit}
use Rattle.defs_soar.specs.Limits.{identifiers_to}
use Rattle.defs_soar.specs.Resettling.{AgentStep, resettled}
use Rattle.defs_soar.specs.Sorted.{with_symbol}
use Rattle.defs_soar.specs.Trimming.{Remains, without_goals}
use Rattle.defs_soar.specs.Walk.{selects_operator, meets, Walked, View, walked}

abbrev pub view_of : Agent → View
view_of a = record { words = a.names.words; rows = a.holding.rows; elements = a.holding.elements; mode = a.settings.mode; random = a.queues.random }

-- the goals below those that stay go
abbrev pub cut_below : Agent → List Goal → Remains
cut_below a goals =
    let t = without_goals (suc (length goals)) (record { goals = a.holding.goals; rows = a.holding.rows; inputs = a.holding.inputs; live = a.holding.live; removed = [] }) in
    record t { goals = goals }

abbrev pub names_of_operator : Texts → List Element → Sym → List Sym
names_of_operator words [] operator = []
names_of_operator words (e ∷ elements) operator =
    if symbol_eq e.id operator && (symbol_eq e.attr name_word && not e.accept) then with_symbol words (names_of_operator words elements operator) e.value
    else names_of_operator words elements operator

abbrev pub first_symbol : List Sym → Option Sym
first_symbol [] = None
first_symbol (s ∷ symbols) = Some s

-- the least name of the operator, in working memory as it was when the step began
abbrev pub operator_name : Agent → Sym → Option Sym
operator_name a operator = first_symbol (names_of_operator a.names.words a.holding.elements operator)

abbrev pub selection_events : Agent → List Goal → Option Sym → List Event
selection_events a goals None = []
selection_events a goals (Some operator) = selects a.counts.cycles (depth_below goals) operator (operator_name a operator) ∷ []
  where
    depth_below : List Goal → ℕ
    depth_below [] = 0
    depth_below (top ∷ below) = length below

-- removals come first, then the line of the decision, then elements
abbrev pub is_removal : Event → Bool
is_removal (removes s) = true
is_removal other = false

abbrev pub with_decision : List Event → AgentStep → AgentStep
with_decision said s = record s { events = begins decision ∷ (filter is_removal s.events ++ (said ++ filter (λ e. not (is_removal e)) s.events)) }

abbrev pub without_words : Bool → Queues → Queues
without_words true queues = record queues { random = drop 1 queues.random }
without_words false queues = queues

abbrev pub after_selection : Agent → List Goal → Option Sym → Bool → AgentStep
after_selection a goals operator takes =
    with_decision (selection_events a goals operator) (resettled (record a { queues = without_words takes a.queues }) (cut_below a goals))

abbrev pub new_goal : Sym → Impasse → List Item → Goal
new_goal id why items = record { id = id; impasse = why; items = items; selected = None }

abbrev pub with_goal : Remains → Goal → Remains
with_goal t goal = record t { goals = t.goals ++ goal ∷ [] }

abbrev pub after_substate : Agent → List Goal → Impasse → List Item → AgentStep
after_substate a goals why items =
    let number = last_of a.names.letters state_letter + 1 in
    let id = Ident state_letter number in
    let named = record a { names = record a.names { letters = with_last a.names.letters state_letter number } } in
    let s = resettled named (with_goal (cut_below a goals) (new_goal id why items)) in
    with_decision (substates a.counts.cycles (length goals) id why ∷ []) (record s { totals = identifiers_to number ∷ s.totals })

-- the hundredth goal is the last: where another would be due, the agent halts
abbrev pub after_limit : Agent → List Goal → AgentStep
after_limit a goals = let s = with_decision (reaches_goal_limit ∷ []) (resettled a (cut_below a goals)) in record s { halted = true }

abbrev pub after_impasse : Agent → List Goal → Impasse → List Item → AgentStep
after_impasse a goals why items = if nat_lt (length goals) 100 then after_substate a goals why items else after_limit a goals

abbrev pub after_walk : Agent → Walked → AgentStep
after_walk a w = elim (w.decided) [
  | selects_operator operator takes ↦ after_selection a w.goals operator takes
  | meets why items ↦ after_impasse a w.goals why items
]

unfoldable pub decided_by : Agent → AgentStep
decided_by a = after_walk a (walked (view_of a) None a.holding.goals)

-- ---- without substates

-- an impasse ends the selection and makes no substate, and an operator that nothing changes goes on
abbrev pub after_walk_alone : Agent → Walked → AgentStep
after_walk_alone a w = elim (w.decided) [
  | selects_operator operator takes ↦ after_selection a w.goals operator takes
  | meets why items ↦ with_decision [] (resettled a (cut_below a w.goals))
]

-- the decision of an agent that makes no substates
unfoldable pub decided_alone : Agent → AgentStep
decided_alone a = after_walk_alone a (walked (view_of a) None a.holding.goals)
