-- The goals that a walk leaves.
use Rattle.std.specs.Prelude.{◌≡◌, ◌≤◌, List, ◌∷◌, length, map, take, Option}
use Rattle.defs_soar.specs.declared.goal.Goal.{Goal}
use Rattle.defs_soar.specs.declared.goal.Impasse.{Impasse}
use Rattle.defs_soar.specs.declared.goal.Item.{Item}
use Rattle.defs_soar.specs.Goals.{goal_ids}
use Rattle.defs_soar.specs.Walk.{View, walked}

abbrev pub impasses_of : List Goal → List Impasse
impasses_of goals = map (λ goal. goal.impasse) goals

-- they are the first ones, one at least; their selections and items may be others
pub record AreFirst (old new : List Goal) : Type 0 where
  pub some : 1 ≤ length new
  pub few : length new ≤ length old
  pub identifiers : goal_ids new ≡ take (length new) (goal_ids old)
  pub impasses : impasses_of new ≡ take (length new) (impasses_of old)

abbrev pub WalkKeepsFirst : Type 0
WalkKeepsFirst =
    (v : View) (renewal : Option (List Item)) (goal : Goal) (deeper : List Goal) → AreFirst (goal ∷ deeper) (walked v renewal (goal ∷ deeper)).goals
