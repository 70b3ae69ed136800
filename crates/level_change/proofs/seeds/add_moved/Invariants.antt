use Rattle.std.proofs.Common.{◌≡◌, ◌++◌, filter, take}
use Rattle.level_change.specs.Seeds.{has_other_place}
use Rattle.level_change.proofs.seeds.add_moved.Given as goal

abbrev pub invariant-goals : goal.invariant-goals
invariant-goals l = l.seeds ≡ l.initial.seeds ++ filter (has_other_place l.old l.new) (take l.goal-index l.goals)
