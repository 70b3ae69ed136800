use Rattle.std.proofs.Common.{◌++◌, flat_map, map}
use Rattle.defs_soar.specs.Waves.{retract_event}
use Rattle.wave_entries.specs.Living.{live_seen}
use Rattle.wave_entries.specs.Entries.{told_events}
use Rattle.step_report.specs.Reports.{settled_events}
use Rattle.step_report.proofs.KnownLemmas.{known_first, known_second}
use Rattle.step_report.proofs.SayingLemmas.{says_both}
use Rattle.step_report.proofs.report.say_report.Goals as goal

pub say_retractions-requires : goal.say_retractions-requires
say_retractions-requires c =
    let r = c.args.report.now in
    rw (c.as_slice.ensures) (known_first c.args.table.now (map retract_event (map live_seen r.retracted)) (flat_map told_events r.fired ++ settled_events r.settled) c.requires)

pub say_firings-requires : goal.say_firings-requires
say_firings-requires c =
    let r = c.args.report.now in
    rw (c.as_slice-2.ensures)
    (known_first c.args.table.now (flat_map told_events r.fired) (settled_events r.settled)
    (known_second c.args.table.now (map retract_event (map live_seen r.retracted)) (flat_map told_events r.fired ++ settled_events r.settled) c.requires))

pub say_settled-requires : goal.say_settled-requires
say_settled-requires c =
    let r = c.args.report.now in
    known_second c.args.table.now (flat_map told_events r.fired) (settled_events r.settled)
    (known_second c.args.table.now (map retract_event (map live_seen r.retracted)) (flat_map told_events r.fired ++ settled_events r.settled) c.requires)

pub returns : goal.returns
returns c =
    let r = c.args.report.now in
    says_both c.args.watch c.args.table.now (map retract_event (map live_seen r.retracted)) (flat_map told_events r.fired ++ settled_events r.settled)
    c.args.mid_line.now c.say_retractions.new.mid_line c.say_settled.new.mid_line c.args.out.now c.say_retractions.new.out c.say_settled.new.out
    (rw (c.as_slice.ensures) at c.in_ok-say_retractions.ensures)
    (says_both c.args.watch c.args.table.now (flat_map told_events r.fired) (settled_events r.settled)
    c.say_retractions.new.mid_line c.say_firings.new.mid_line c.say_settled.new.mid_line c.say_retractions.new.out c.say_firings.new.out c.say_settled.new.out
    (rw (c.as_slice-2.ensures) at c.in_ok-say_firings.ensures) c.in_ok-say_settled.ensures)
