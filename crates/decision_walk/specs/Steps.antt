-- The walk told from a depth on. No public clause cites this module.
use Rattle.std.specs.Prelude.{◌≡◌, ℕ, zero, suc, ◌<◌, List, [], ◌∷◌, length, Option, Some, None}
use Rattle.defs_soar.specs.declared.goal.Goal.{Goal}
use Rattle.defs_soar.specs.Walk.{View, Walked, below_goal, walked}
use Rattle.soar_decide.specs.Outcomes as outcome
use Rattle.decision_laws.specs.Walks.{walked_on}
use Rattle.decision_walk.specs.Ends.{decided_seen}
use Rattle.decision_walk.specs.declared.decided.Decided.{Decided as DecidedKept}

-- the goals above stay, and the walk goes on below them
abbrev pub walked_below : View → ℕ → List Goal → Walked
walked_below v above [] = walked v None []
walked_below v zero (goal ∷ goals) = walked v None (goal ∷ goals)
walked_below v (suc above) (goal ∷ goals) = below_goal goal (walked_below v above goals)

-- the outcome at the goal with so many above it
abbrev pub outcome_below : View → ℕ → List Goal → outcome.Outcome
outcome_below v above [] = outcome.stays
outcome_below v zero (goal ∷ goals) = outcome.outcome_at v goal
outcome_below v (suc above) (goal ∷ goals) = outcome_below v above goals

-- the walk where that is the outcome there
abbrev pub stepped : View → outcome.Outcome → ℕ → List Goal → Walked
stepped v found above [] = walked v None []
stepped v found zero (goal ∷ goals) = walked_on v goal found goals
stepped v found (suc above) (goal ∷ goals) = below_goal goal (stepped v found above goals)

-- as many goals as before, and the walk goes on at the next one
pub record GoesOn (v : View) (whole : Walked) (above : ℕ) (old new : List Goal) : Type 0 where
  pub there : suc above < length new
  pub as_many : length new ≡ length old
  pub same : walked_below v (suc above) new ≡ whole

-- the walk ends with these goals, or goes on
abbrev pub Steps : View → Walked → ℕ → List Goal → List Goal → Option DecidedKept → Type 0
Steps v whole above old new (Some decided) = record { goals = new; decided = decided_seen decided } ≡ whole
Steps v whole above old new None = GoesOn v whole above old new
