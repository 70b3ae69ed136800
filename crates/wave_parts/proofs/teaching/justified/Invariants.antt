use Rattle.std.proofs.Common.{◌≡◌, [], map, drop}
use Rattle.defs_match.specs.Rules.{rule_seen}
use Rattle.wave_parts.specs.Spent.{with_each_justified}
use Rattle.wave_parts.proofs.teaching.justified.Given as goal

abbrev pub invariant-gone : goal.invariant-gone
invariant-gone l = with_each_justified (map rule_seen l.rules) l.found.keys (drop l.firing-index l.gone) ≡ with_each_justified (map rule_seen l.rules) [] l.gone
