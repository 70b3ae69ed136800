use Rattle.std.proofs.Common.{◌∙◌, map}
use Rattle.defs_match.specs.Rules.{rule_seen}
use Rattle.rule_shelf.proofs.NameLemmas.{has_named}
use Rattle.rule_shelf.proofs.rules.Rules.has_name.Goals as goal

pub returns : goal.returns
returns c = c.is_some.ensures ∙ has_named c.args.name (map rule_seen c.args.self.now) c.first_named.result c.first_named.ensures
