use Rattle.std.proofs.Common.{◌≡◌, ◌+◌, length, map}
use Rattle.defs_match.specs.Rules.{rule_seen}
use Rattle.soar_cycle.specs.Counting.{chunks_among}
use Rattle.soar_cycle.proofs.counts.count_chunks.Given as goal

abbrev pub invariant-rules : goal.invariant-rules
invariant-rules l = record {
  most : l.most ≡ length l.rules;
  counted : l.count + length (chunks_among (map rule_seen l.rule-iterator)) ≡ length (chunks_among (map rule_seen l.rules));
}
