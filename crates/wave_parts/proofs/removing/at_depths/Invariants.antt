use Rattle.std.proofs.Common.{◌≡◌, ◌++◌, map, suc, drop}
use Rattle.defs_soar.specs.Trimming.{at_depths}
use Rattle.step_report.specs.Reports.{removed_seen}
use Rattle.wave_parts.proofs.removing.at_depths.Given as goal

abbrev pub invariant-goals : goal.invariant-goals
invariant-goals l = map removed_seen l.all ++ at_depths (suc l.above) (drop l.above l.goals) ≡ at_depths 1 l.goals
