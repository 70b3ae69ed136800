use Rattle.std.proofs.Common.{◌≡◌, map, drop}
use Rattle.defs_match.specs.Rules.{rule_seen}
use Rattle.wave_parts.specs.Spent.{without_each}
use Rattle.wave_parts.proofs.teaching.drop_rules.Given as goal

abbrev pub invariant-numbers : goal.invariant-numbers
invariant-numbers l = without_each (map rule_seen l.rules) (drop l.number-index l.numbers) ≡ without_each (map rule_seen l.initial.rules) l.numbers
