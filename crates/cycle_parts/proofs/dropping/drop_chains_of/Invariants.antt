use Rattle.std.proofs.Common.{◌≡◌, ◌++◌, ◌-◌, ◌≤◌, map, filter, not, take, drop, length}
use Rattle.defs_match.specs.Rules.{rule_seen}
use Rattle.decision_parts.specs.Hands.{learned_rule_seen}
use Rattle.cycle_parts.specs.Dropping.{is_of_name}
use Rattle.cycle_parts.proofs.dropping.drop_chains_of.Given as goal

abbrev pub invariant-chains : goal.invariant-chains
invariant-chains l = record {
  within : l.at ≤ length l.chains;
  kept : map learned_rule_seen (take l.at l.chains) ++ filter (λ learnt. not (is_of_name l.name (map rule_seen l.rules) learnt.rule)) (map learned_rule_seen (drop l.at l.chains))
      ≡ filter (λ learnt. not (is_of_name l.name (map rule_seen l.rules) learnt.rule)) (map learned_rule_seen l.initial.chains);
}

abbrev pub decreases-chains : goal.decreases-chains
decreases-chains l = length l.chains - l.at
