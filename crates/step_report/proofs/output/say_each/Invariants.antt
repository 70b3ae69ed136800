use Rattle.std.proofs.Common.{map, take}
use Rattle.trace_lines.specs.Saying.{output_event}
use Rattle.step_report.specs.Saying.{SaysEvents}
use Rattle.step_report.proofs.output.say_each.Given as goal

abbrev pub invariant-triples : goal.invariant-triples
invariant-triples l = SaysEvents l.watch l.table (map (output_event l.shows) (take l.triple-index l.triples)) l.initial.mid_line l.initial.out l.mid_line l.out
