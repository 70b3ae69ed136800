use Rattle.std.proofs.Common.{◌≡◌, map, drop}
use Rattle.defs_run.specs.Carrying.{chain_of_rule}
use Rattle.cycle_phases.specs.Hands.{learned_rule_seen}
use Rattle.soar_cycle.proofs.explaining.chain_of_rule.Given as goal

abbrev pub invariant-chains : goal.invariant-chains
invariant-chains l = chain_of_rule (map learned_rule_seen (drop l.learned-index l.chains)) l.rule ≡ chain_of_rule (map learned_rule_seen l.chains) l.rule
