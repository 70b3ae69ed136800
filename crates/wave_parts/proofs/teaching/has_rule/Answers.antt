use Rattle.std.proofs.Common.{◌∙◌, map}
use Rattle.defs_match.specs.Rules.{rule_seen}
use Rattle.wave_parts.proofs.SpentLemmas.{is_there}
use Rattle.wave_parts.proofs.teaching.has_rule.Goals as goal

pub returns : goal.returns
returns c = c.is_some.ensures ∙ is_there c.args.learned.now.rule (map rule_seen c.args.rules.now) c.get.result c.get.ensures
