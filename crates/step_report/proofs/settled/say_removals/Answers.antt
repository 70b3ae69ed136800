use Rattle.std.proofs.Common.{get_or}
use Rattle.defs_soar.specs.Events.{removes}
use Rattle.defs_soar.specs.Trimming.{RemovedGoal}
use Rattle.step_report.specs.Reports.{removed_seen}
use Rattle.step_report.proofs.Blanks.{at_place, no_removed}
use Rattle.step_report.proofs.SayingLemmas.{says_mapped_twice, says_none, says_one}
use Rattle.step_report.proofs.KnownLemmas.{known_in_maps}
use Rattle.step_report.proofs.settled.say_removals.Goals as goal

pub say_removal-requires : goal.say_removal-requires
say_removal-requires c = known_in_maps c.args.table.now (λ (it : RemovedGoal). removes it.id) removed_seen c.args.removed.now c.removed.gone-index (get_or c.args.removed.now c.removed.gone-index no_removed) c.removed-test.true (at_place c.args.removed.now c.removed.gone-index no_removed c.removed-test.true) c.requires

pub removed-init : goal.removed-init
removed-init c = says_none c.args.watch c.args.table.now c.args.mid_line.now c.args.out.now

pub removed-preserved : goal.removed-preserved
removed-preserved c =
    says_mapped_twice c.args.watch c.args.table.now c.args.removed.now c.removed.gone-index (get_or c.args.removed.now c.removed.gone-index no_removed) c.removed-test.true (at_place c.args.removed.now c.removed.gone-index no_removed c.removed-test.true)
    c.args.mid_line.now c.removed.mid_line c.say_removal.new.mid_line c.args.out.now c.removed.out c.say_removal.new.out (λ (it : RemovedGoal). removes it.id) removed_seen
    c.removed.invariant (says_one c.args.watch c.args.table.now (removes (get_or c.args.removed.now c.removed.gone-index no_removed).goal) c.removed.mid_line c.say_removal.new.mid_line c.removed.out c.say_removal.new.out c.in_ok-say_removal.ensures.ok)
