use Rattle.std.proofs.Common.{◌∙◌, ap, map}
use Rattle.defs_match.specs.Rules.{rule_seen}
use Rattle.soar_rule.specs.declared.production.Production.{Production}
use Rattle.session_parts.proofs.RuleLemmas.{name_found, no_name}
use Rattle.session_parts.proofs.rules.name_of.Goals as goal

pub returns-in-Some : goal.returns-in-Some
returns-in-Some c = ap (λ (p : Production). p.name) c.deref.ensures ∙ name_found (map rule_seen c.args.rules.now) c.args.number (rule_seen c.in-Some.rule.now) c.in-Some.ensures

pub returns-in-None : goal.returns-in-None
returns-in-None c = no_name (map rule_seen c.args.rules.now) c.args.number c.in-None.ensures
