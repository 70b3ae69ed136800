use Rattle.std.proofs.Common.{map, take}
use Rattle.defs_soar.specs.Waves.{retract_event}
use Rattle.wave_entries.specs.Living.{live_seen}
use Rattle.step_report.specs.Saying.{SaysEvents}
use Rattle.step_report.proofs.report.say_retractions.Given as goal

abbrev pub invariant-retracted : goal.invariant-retracted
invariant-retracted l = SaysEvents l.watch l.table (map retract_event (map live_seen (take l.live-index l.retracted))) l.initial.mid_line l.initial.out l.mid_line l.out
