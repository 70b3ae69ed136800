use Rattle.std.proofs.Common.{◌∙◌, map}
use Rattle.defs_match.specs.Rules.{rule_seen}
use Rattle.rule_shelf.proofs.NameLemmas.{named_by_number}
use Rattle.rule_shelf.proofs.rules.Rules.named.Goals as goal

pub returns-in-Some : goal.returns-in-Some
returns-in-Some c = c.get.ensures ∙ named_by_number c.args.name c.in-Some.number (map rule_seen c.args.self.now) c.law.ensures c.in-Some.ensures
