use Rattle.std.proofs.Common.{get_or}
use Rattle.defs_soar.specs.Events.{drops}
use Rattle.step_report.proofs.Blanks.{at_place, no_drop}
use Rattle.step_report.proofs.SayingLemmas.{says_mapped, says_none, says_one}
use Rattle.step_report.proofs.fired.say_drops.Goals as goal

pub dropped-init : goal.dropped-init
dropped-init c = says_none c.args.watch c.args.table.now c.args.mid_line.now c.args.out.now

pub dropped-preserved : goal.dropped-preserved
dropped-preserved c =
    says_mapped c.args.watch c.args.table.now c.args.dropped.now c.dropped.action-index (get_or c.args.dropped.now c.dropped.action-index no_drop) c.dropped-test.true (at_place c.args.dropped.now c.dropped.action-index no_drop c.dropped-test.true)
    c.args.mid_line.now c.dropped.mid_line c.say_drop.new.mid_line c.args.out.now c.dropped.out c.say_drop.new.out drops
    c.dropped.invariant (says_one c.args.watch c.args.table.now (drops (get_or c.args.dropped.now c.dropped.action-index no_drop)) c.dropped.mid_line c.say_drop.new.mid_line c.dropped.out c.say_drop.new.out c.in_ok-say_drop.ensures.ok)
