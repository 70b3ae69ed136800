use Rattle.std.proofs.Common.{◌≡◌, ◌++◌, flat_map, drop}
use Rattle.defs_soar.specs.Standing.{makers_of_goal}
use Rattle.wave_parts.proofs.forgetting.add_selections.Given as goal

abbrev pub invariant-goals : goal.invariant-goals
invariant-goals l = l.roots ++ flat_map makers_of_goal (drop l.goal-index l.goals) ≡ l.initial.roots ++ flat_map makers_of_goal l.goals
