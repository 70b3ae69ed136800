use Rattle.std.proofs.Common.{◌∙◌, map, sym}
use Rattle.defs_match.specs.Rules.{rule_seen}
use Rattle.decision_parts.specs.Hands.{learned_rule_seen}
use Rattle.cycle_parts.proofs.NamedLemmas.{all_stay}
use Rattle.cycle_parts.proofs.dropping.drop_chains.Goals as goal

pub returns-else-has_name : goal.returns-else-has_name
returns-else-has_name c = sym (all_stay c.args.name (map rule_seen c.args.rules.now) (map learned_rule_seen c.args.chains.now) (sym c.has_name.ensures ∙ c.if-has_name.false))
