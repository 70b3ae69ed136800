-- The steps of a decision: the walk over the goals, and then a selection, a substate, or a halt at the limit of goals.
use Rattle.std.specs.Prelude.{◌+◌, Bool, true, List, [], ◌∷◌, ◌++◌, length, nat_lt, if◌then◌else◌, Option, None}
use Rattle.soar_sym.specs.Letters.{last_of, with_last}
use Rattle.soar_sym.specs.declared.symbol.Sym.{Sym}
use Rattle.soar_sym.specs.declared.symbol.Sym.TheVariants.{Ident}
use Rattle.defs_soar.specs.declared.goal.Impasse.{Impasse}
use Rattle.defs_soar.specs.declared.goal.Item.{Item}
use Rattle.defs_soar.specs.Agents.{Agent}
use Rattle.defs_soar.specs.Cycle.{held_with}
use Rattle.defs_soar.specs.Decision.{cut_below, new_goal, selection_events, view_of, with_decision, without_words}
use Rattle.defs_soar.specs.Events.{reaches_goal_limit, substates}
use Rattle.defs_soar.specs.Limits.{identifiers_to}
use Rattle.defs_soar.specs.Resettling.{AgentStep, resettled}
use Rattle.defs_soar.specs.Trimming.{RemovedGoal}
use Rattle.defs_soar.specs.Walk.{Decided, Walked, meets, selects_operator, walked}

-- ---- the walk

-- the walk over all goals of a state
abbrev pub walk_of : Agent → Walked
walk_of s = walked (view_of s) None s.holding.goals

-- the state with the goals that stay; with the others their firings have gone, and the instance-supported rows of these
abbrev pub walked_state : Agent → Walked → Agent
walked_state s w = let t = cut_below s w.goals in record s { holding = record s.holding { goals = w.goals; rows = t.rows; live = t.live } }

-- the goals that the walk left behind
abbrev pub removed_in_walk : Agent → List RemovedGoal
removed_in_walk s = (cut_below s (walk_of s).goals).removed

-- ---- what follows it, from such a state, where these goals went before

-- what the state holds now, settled
abbrev pub settled_from : Agent → List RemovedGoal → AgentStep
settled_from s removed = resettled s (record (held_with s s.holding.inputs) { removed = removed })

-- the operator that the last goal has selected now is told
abbrev pub selection_step : Agent → List RemovedGoal → Option Sym → Bool → AgentStep
selection_step s removed operator takes =
    with_decision (selection_events s s.holding.goals operator) (settled_from (record s { queues = without_words takes s.queues }) removed)

-- the letters give the next state
abbrev pub with_substate : Agent → Impasse → List Item → Agent
with_substate s why items =
    let number = last_of s.names.letters 83 + 1 in
    record s {
      names = record s.names { letters = with_last s.names.letters 83 number };
      holding = record s.holding { goals = s.holding.goals ++ new_goal (Ident 83 number) why items ∷ [] };
    }

abbrev pub substate_step : Agent → List RemovedGoal → Impasse → List Item → AgentStep
substate_step s removed why items =
    let number = last_of s.names.letters 83 + 1 in
    let step = settled_from (with_substate s why items) removed in
    with_decision (substates s.counts.cycles (length s.holding.goals) (Ident 83 number) why ∷ []) (record step { totals = identifiers_to number ∷ step.totals })

-- where a goal too many would be due, the agent halts
abbrev pub limit_step : Agent → List RemovedGoal → AgentStep
limit_step s removed = let step = with_decision (reaches_goal_limit ∷ []) (settled_from s removed) in record step { halted = true }

abbrev pub impasse_step : Agent → List RemovedGoal → Impasse → List Item → AgentStep
impasse_step s removed why items = if nat_lt (length s.holding.goals) 100 then substate_step s removed why items else limit_step s removed

abbrev pub decision_step : Agent → List RemovedGoal → Decided → AgentStep
decision_step s removed (selects_operator operator takes) = selection_step s removed operator takes
decision_step s removed (meets why items) = impasse_step s removed why items
