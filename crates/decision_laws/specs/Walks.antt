-- The walk of a decision, told by the outcome at each goal.
use Rattle.std.specs.Prelude.{◌≡◌, List, [], ◌∷◌, Option, Some, None, if◌then◌else◌}
use Rattle.std.specs.Option.{option_map}
use Rattle.defs_soar.specs.declared.goal.Goal.{Goal}
use Rattle.defs_soar.specs.declared.goal.Impasse.TheVariants as impasse
use Rattle.defs_soar.specs.declared.goal.Item.{Item}
use Rattle.defs_soar.specs.Walk.{Decided, View, Walked, below_goal, has_impasse, meets, renewed, selects_operator, walked}
use Rattle.soar_decide.specs.Outcomes as outcome

-- ---- the walk ends at a goal

-- the goal afterwards
abbrev pub goal_after : Goal → outcome.Outcome → Goal
goal_after goal outcome.stays = goal
goal_after goal (outcome.selects selection takes) = record goal { selected = selection }
goal_after goal (outcome.meets why items) = record goal { selected = None }

-- how it ends: below an operator that stays nothing is selected, and that is an impasse too
abbrev pub end_by : outcome.Outcome → Decided
end_by outcome.stays = meets impasse.OperatorNoChange []
end_by (outcome.selects selection takes) = selects_operator (option_map (λ s. s.operator) selection) takes
end_by (outcome.meets why items) = meets why items

abbrev pub walked_by : Goal → outcome.Outcome → Walked
walked_by goal found = record { goals = goal_after goal found ∷ []; decided = end_by found }

-- the walk of one goal is told by the outcome there
abbrev pub WalkOfOne : Type 0
WalkOfOne = (v : View) (goal : Goal) → walked v None (goal ∷ []) ≡ walked_by goal (outcome.outcome_at v goal)

-- ---- the walk goes on

-- where the operator stays, it goes on if there is a goal below
abbrev pub walked_below : View → Goal → List Goal → Walked
walked_below v goal [] = walked_by goal outcome.stays
walked_below v goal (next ∷ deeper) = below_goal goal (walked v None (next ∷ deeper))

-- at an impasse it goes on if the goal below has just this one, whose items are then renewed
abbrev pub walked_on : View → Goal → outcome.Outcome → List Goal → Walked
walked_on v goal outcome.stays deeper = walked_below v goal deeper
walked_on v goal (outcome.selects selection takes) deeper = walked_by goal (outcome.selects selection takes)
walked_on v goal (outcome.meets why items) deeper =
    if has_impasse why deeper then below_goal (record goal { selected = None }) (walked v (Some items) deeper) else walked_by goal (outcome.meets why items)

-- a step of the walk is told by the outcome at its goal
abbrev pub WalkFollowsOutcomes : Type 0
WalkFollowsOutcomes =
    (v : View) (renewal : Option (List Item)) (goal : Goal) (deeper : List Goal)
    → walked v renewal (goal ∷ deeper) ≡ walked_on v (renewed renewal goal) (outcome.outcome_at v (renewed renewal goal)) deeper
