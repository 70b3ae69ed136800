use Rattle.std.proofs.Common.{◌≡◌, ◌++◌, drop}
use Rattle.defs_soar.specs.Goals.{elements_below}
use Rattle.soar_settle.proofs.goal_elements.add_below.Given as goal

abbrev pub invariant-goals : goal.invariant-goals
invariant-goals l = l.out ++ elements_below l.above (drop l.goal-index l.goals) ≡ l.initial.out ++ elements_below l.initial.above l.goals
