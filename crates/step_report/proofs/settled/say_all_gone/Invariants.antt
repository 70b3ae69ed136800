use Rattle.std.proofs.Common.{map, take}
use Rattle.defs_soar.specs.Events.{goes}
use Rattle.step_report.specs.Saying.{SaysEvents}
use Rattle.step_report.proofs.settled.say_all_gone.Given as goal

abbrev pub invariant-elements : goal.invariant-elements
invariant-elements l = SaysEvents l.watch l.table (map goes (take l.element-index l.elements)) l.initial.mid_line l.initial.out l.mid_line l.out
