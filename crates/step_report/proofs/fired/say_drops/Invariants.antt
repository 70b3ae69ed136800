use Rattle.std.proofs.Common.{map, take}
use Rattle.defs_soar.specs.Events.{drops}
use Rattle.step_report.specs.Saying.{SaysEvents}
use Rattle.step_report.proofs.fired.say_drops.Given as goal

abbrev pub invariant-dropped : goal.invariant-dropped
invariant-dropped l = SaysEvents l.watch l.table (map drops (take l.action-index l.dropped)) l.initial.mid_line l.initial.out l.mid_line l.out
