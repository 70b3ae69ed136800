-- The decision of an agent that has one goal and makes no substates.
use Rattle.std.specs.Prelude.{◌≡◌, ◌<◌, List, [], ◌∷◌, Option, Some, None}
use Rattle.defs_soar.specs.declared.goal.Goal.{Goal}
use Rattle.defs_soar.specs.declared.goal.Selection.{Selection}
use Rattle.defs_soar.specs.Agents.{Agent, LiveFiring}
use Rattle.defs_soar.specs.Decision.{cut_below, decided_alone, operator_name, view_of, with_decision, without_words}
use Rattle.defs_soar.specs.Events.{Event, selects}
use Rattle.defs_soar.specs.Laws.{IsIn}
use Rattle.defs_soar.specs.Resettling.{AgentStep, resettled}
use Rattle.defs_soar.specs.Trimming.{Remains}
use Rattle.soar_decide.specs.Outcomes as outcome
use Rattle.decision_laws.specs.Walks.{goal_after}

-- what is said of a selection at the top goal
abbrev pub selection_line : Agent → Option Selection → List Event
selection_line a None = []
selection_line a (Some selection) = selects a.counts.cycles 0 selection.operator (operator_name a selection.operator) ∷ []

-- the step of an outcome that leaves this held; a selection may take a random word
abbrev pub step_by : Agent → outcome.Outcome → Remains → AgentStep
step_by a outcome.stays held = with_decision [] (resettled a held)
step_by a (outcome.selects selection takes) held = with_decision (selection_line a selection) (resettled (record a { queues = without_words takes a.queues }) held)
step_by a (outcome.meets why items) held = with_decision [] (resettled a held)

abbrev pub decided_with : Agent → Goal → outcome.Outcome → AgentStep
decided_with a goal found = step_by a found (cut_below a (goal_after goal found ∷ []))

-- the decision is told by the outcome at the goal
abbrev pub DecisionOfOne : Type 0
DecisionOfOne = (a : Agent) (goal : Goal) → a.holding.goals ≡ goal ∷ [] → decided_alone a ≡ decided_with a goal (outcome.outcome_at (view_of a) goal)

-- ---- where nothing is below the top goal

-- no live firing matched below the top goal
abbrev pub AreAtTop : Agent → Type 0
AreAtTop a = (firing : LiveFiring) → IsIn firing a.holding.live → firing.depth < 2

-- all that the agent holds, with this goal in place of its own
abbrev pub all_with : Agent → Goal → Remains
all_with a goal = record { goals = goal ∷ []; rows = a.holding.rows; inputs = a.holding.inputs; live = a.holding.live; removed = [] }

-- nothing goes
abbrev pub NothingIsBelow : Type 0
NothingIsBelow = (a : Agent) (goal other : Goal) → a.holding.goals ≡ goal ∷ [] → AreAtTop a → cut_below a (other ∷ []) ≡ all_with a other

-- so the decision settles all that there is
abbrev pub DecisionKeepsAll : Type 0
DecisionKeepsAll =
    (a : Agent) (goal : Goal) → a.holding.goals ≡ goal ∷ [] → AreAtTop a
    → let found = outcome.outcome_at (view_of a) goal in decided_alone a ≡ step_by a found (all_with a (goal_after goal found))
