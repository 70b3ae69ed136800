use Rattle.std.proofs.Common.{◌≡◌, ◌++◌, ◌-◌, ◌≤◌, map, take, drop, length}
use Rattle.defs_match.specs.Rules.{rule_seen}
use Rattle.wave_learning.specs.Hands.{learned_rule_seen}
use Rattle.wave_parts.specs.Programs.{chains_of}
use Rattle.wave_parts.proofs.teaching.drop_chains.Given as goal

abbrev pub invariant-chains : goal.invariant-chains
invariant-chains l = record {
  within : l.at ≤ length l.chains;
  rest : map learned_rule_seen (take l.at l.chains) ++ chains_of (map rule_seen l.rules) (map learned_rule_seen (drop l.at l.chains))
      ≡ chains_of (map rule_seen l.rules) (map learned_rule_seen l.initial.chains);
}

abbrev pub decreases-chains : goal.decreases-chains
decreases-chains l = length l.chains - l.at
