use Rattle.std.proofs.Common.{◌++◌, map}
use Rattle.defs_soar.specs.Events.{comes, goes}
use Rattle.defs_soar.specs.Resettling.{removal_events}
use Rattle.step_report.specs.Reports.{removed_seen}
use Rattle.step_report.proofs.KnownLemmas.{known_first, known_second}
use Rattle.step_report.proofs.SayingLemmas.{says_both}
use Rattle.step_report.proofs.settled.say_settled.Goals as goal

pub say_removals-requires : goal.say_removals-requires
say_removals-requires c =
    let s = c.args.settled.now in
    rw (c.as_slice.ensures) (known_first c.args.table.now (removal_events (map removed_seen s.removed)) (map goes s.changes.gone ++ map comes s.changes.new) c.requires)

pub say_changes-requires : goal.say_changes-requires
say_changes-requires c =
    let s = c.args.settled.now in known_second c.args.table.now (removal_events (map removed_seen s.removed)) (map goes s.changes.gone ++ map comes s.changes.new) c.requires

pub returns : goal.returns
returns c =
    let s = c.args.settled.now in
    says_both c.args.watch c.args.table.now (removal_events (map removed_seen s.removed)) (map goes s.changes.gone ++ map comes s.changes.new)
    c.args.mid_line.now c.say_removals.new.mid_line c.say_changes.new.mid_line c.args.out.now c.say_removals.new.out c.say_changes.new.out
    (rw (c.as_slice.ensures) at c.in_ok-say_removals.ensures) c.in_ok-say_changes.ensures
