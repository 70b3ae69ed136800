use Rattle.std.proofs.Common.{◌≡◌, drop, map}
use Rattle.defs_soar.specs.Trimming.{with_all_removed}
use Rattle.step_report.specs.Reports.{removed_seen}
use Rattle.decision_parts.proofs.merging.with_all_removed.Given as goal

abbrev pub invariant-later : goal.invariant-later
invariant-later l =
    with_all_removed (map removed_seen (drop l.goal-index l.later)) (map removed_seen l.all) ≡ with_all_removed (map removed_seen l.later) (map removed_seen l.initial.all)
