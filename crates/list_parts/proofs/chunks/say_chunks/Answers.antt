use Rattle.std.proofs.Common.{◌∙◌}
use Rattle.list_parts.proofs.ChunkLemmas.{next_known, one_said}
use Rattle.list_parts.proofs.chunks.say_chunks.Goals as goal

pub say_chunk-requires : goal.say_chunk-requires
say_chunk-requires c = ((next_known c.args.table.now c.rules.rule-iterator c.next.new.self c.in-Some.rule.now c.in-Some.ensures.steps c.rules.invariant.known).0, tt)

pub rules-preserved : goal.rules-preserved
rules-preserved c =
    let step =
    one_said c.args.table.now c.rules.rule-iterator c.next.new.self c.in-Some.rule.now c.rules.mid_line c.say_chunk.new.mid_line c.rules.out c.say_chunk.new.out c.in-Some.ensures.steps c.in_ok-say_chunk.ensures in
    record {
      known = (next_known c.args.table.now c.rules.rule-iterator c.next.new.self c.in-Some.rule.now c.in-Some.ensures.steps c.rules.invariant.known).1;
      text = step.0 ∙ c.rules.invariant.text;
      mid_line = step.1 ∙ c.rules.invariant.mid_line;
    }
