use Rattle.wave_entries.specs.Entries.{told_events}
use Rattle.step_report.proofs.SayingLemmas.{says_flat, says_none}
use Rattle.step_report.proofs.KnownLemmas.{known_in_flat_map}
use Rattle.step_report.proofs.report.say_firings.Goals as goal

pub say_fired-requires : goal.say_fired-requires
say_fired-requires c = known_in_flat_map c.args.table.now told_events c.args.fired.now c.fired.told-index c.told-item.result c.fired-test.true c.told-item.is c.requires

pub fired-init : goal.fired-init
fired-init c = says_none c.args.watch c.args.table.now c.args.mid_line.now c.args.out.now

pub fired-preserved : goal.fired-preserved
fired-preserved c =
    says_flat c.args.watch c.args.table.now c.args.fired.now c.fired.told-index c.told-item.result c.fired-test.true c.told-item.is
    c.args.mid_line.now c.fired.mid_line c.say_fired.new.mid_line c.args.out.now c.fired.out c.say_fired.new.out told_events
    c.fired.invariant c.in_ok-say_fired.ensures
