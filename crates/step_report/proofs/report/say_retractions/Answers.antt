use Rattle.defs_soar.specs.Waves.{retract_event}
use Rattle.wave_entries.specs.Living.{live_seen}
use Rattle.step_report.proofs.SayingLemmas.{says_mapped_twice, says_none, says_one}
use Rattle.step_report.proofs.KnownLemmas.{known_in_maps}
use Rattle.step_report.proofs.report.say_retractions.Goals as goal

pub say_retraction-requires : goal.say_retraction-requires
say_retraction-requires c = known_in_maps c.args.table.now retract_event live_seen c.args.retracted.now c.retracted.live-index c.live-item.result c.retracted-test.true c.live-item.is c.requires

pub retracted-init : goal.retracted-init
retracted-init c = says_none c.args.watch c.args.table.now c.args.mid_line.now c.args.out.now

pub retracted-preserved : goal.retracted-preserved
retracted-preserved c =
    says_mapped_twice c.args.watch c.args.table.now c.args.retracted.now c.retracted.live-index c.live-item.result c.retracted-test.true c.live-item.is
    c.args.mid_line.now c.retracted.mid_line c.say_retraction.new.mid_line c.args.out.now c.retracted.out c.say_retraction.new.out retract_event live_seen
    c.retracted.invariant (says_one c.args.watch c.args.table.now (retract_event (live_seen c.live-item.result)) c.retracted.mid_line c.say_retraction.new.mid_line c.retracted.out c.say_retraction.new.out c.in_ok-say_retraction.ensures.ok)
