use Rattle.std.proofs.Common.{◌+◌, ◌∙◌, arith, ap, sym, length, map, List}
use Rattle.defs_match.specs.Rules.{rule_seen}
use Rattle.defs_match.specs.declared.rule.Rule.{Rule}
use Rattle.soar_cycle.specs.Counting.{chunks_among}
use Rattle.soar_cycle.proofs.CountLemmas.{chunks_few, chunks_on}
use Rattle.soar_cycle.proofs.counts.count_chunks.Goals as goal
use Rattle.soar_cycle.proofs.counts.count_chunks.Goals.{else-is_chunk-via-then-is_chunk+else-count-most, else-is_chunk-via-else-is_chunk}

pub rules-preserved : goal.rules-preserved
rules-preserved c =
    let all = c.args.rules.now in
    let rest = c.next.new.self in
    let rule = c.in-Some.rule.now in
    let now = ap (λ (rules : List Rule). c.rules.count + length (chunks_among (map rule_seen rules))) (sym c.in-Some.ensures.steps) ∙ c.rules.invariant.counted in
    record {
      most = c.rules.invariant.most;
      counted = elim c.else-is_chunk.branch [
        | else-is_chunk-via-then-is_chunk+else-count-most w ↦ absurd (chunks_few rule rest all c.rules.count c.len-most.result now (sym (rw c.deref.ensures at c.is_chunk.ensures) ∙ w.if-is_chunk.true) c.rules.invariant.most (omega (arith, w.if-count-most.false)))
        | else-is_chunk-via-else-is_chunk w ↦ chunks_on rule rest all c.rules.count now (sym (rw c.deref.ensures at c.is_chunk.ensures) ∙ w.if-is_chunk.false)
      ];
    }
