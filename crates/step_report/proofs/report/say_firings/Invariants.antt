use Rattle.std.proofs.Common.{flat_map, take}
use Rattle.wave_entries.specs.Entries.{told_events}
use Rattle.step_report.specs.Saying.{SaysEvents}
use Rattle.step_report.proofs.report.say_firings.Given as goal

abbrev pub invariant-fired : goal.invariant-fired
invariant-fired l = SaysEvents l.watch l.table (flat_map told_events (take l.told-index l.fired)) l.initial.mid_line l.initial.out l.mid_line l.out
