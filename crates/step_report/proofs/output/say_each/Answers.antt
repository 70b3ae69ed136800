use Rattle.std.proofs.Common.{get_or}
use Rattle.trace_lines.specs.Saying.{output_event}
use Rattle.step_report.proofs.Blanks.{at_place, no_triple}
use Rattle.step_report.proofs.SayingLemmas.{says_mapped, says_none}
use Rattle.step_report.proofs.output.say_each.Goals as goal

pub triples-init : goal.triples-init
triples-init c = says_none c.args.watch c.args.table.now c.args.mid_line.now c.args.out.now

pub triples-preserved : goal.triples-preserved
triples-preserved c =
    says_mapped c.args.watch c.args.table.now c.args.triples.now c.triples.triple-index (get_or c.args.triples.now c.triples.triple-index no_triple) c.triples-test.true (at_place c.args.triples.now c.triples.triple-index no_triple c.triples-test.true)
    c.args.mid_line.now c.triples.mid_line c.say_output_at.new.mid_line c.args.out.now c.triples.out c.say_output_at.new.out (output_event c.args.shows)
    c.triples.invariant c.in_ok-say_output_at.ensures
