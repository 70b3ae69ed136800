use Rattle.std.proofs.Common.{◌≡◌, drop}
use Rattle.defs_soar.specs.Goals.{is_goal}
use Rattle.defs_soar.proofs.goal.is_goal.Given as goal

abbrev pub invariant-goals : goal.invariant-goals
invariant-goals l = is_goal (drop l.goal-index l.goals) l.symbol ≡ is_goal l.goals l.symbol
