use Rattle.std.proofs.Common.{◌≡◌, map}
use Rattle.std.specs.List.{list_any}
use Rattle.defs_match.specs.Rules.{rule_seen}
use Rattle.list_parts.specs.Lists.{is_chunk_rule}
use Rattle.list_parts.proofs.chunks.has_chunk.Given as goal

abbrev pub invariant-rules : goal.invariant-rules
invariant-rules l = list_any is_chunk_rule (map rule_seen l.rule-iterator) ≡ list_any is_chunk_rule (map rule_seen l.rules)
