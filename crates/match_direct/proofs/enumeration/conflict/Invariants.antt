use Rattle.std.proofs.Common.{◌≡◌, map, take}
use Rattle.defs_match.specs.Conflict.{conflict}
use Rattle.defs_match.specs.Rules.{rule_seen}
use Rattle.match_direct.proofs.enumeration.conflict.Given as goal

abbrev pub invariant-rules : goal.invariant-rules
invariant-rules l = l.out ≡ conflict (map rule_seen (take l.rule-index l.rules)) l.elements
