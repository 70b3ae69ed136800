use Rattle.std.proofs.Common.{rules, ◌∙◌, ap, map, not, ◌==◌}
use Rattle.std.proofs.lemmas.Fn.{filter_same}
use Rattle.defs_match.specs.declared.rule.Rule.{Rule}
use Rattle.defs_match.specs.Rules.{rule_seen}
use Rattle.match_direct.proofs.ContentLemmas.{rules_without}
use Rattle.match_direct.proofs.contents.remove_rule.Goals as goal

pub returns : goal.returns
returns c =
    ap (map rule_seen) (filter_same _ (λ (r : Rule). not (r.number == c.args.number)) _ (λ x b f' k. search rules) _ _ c.retain.ensures.filtered)
    ∙ rules_without c.args.rules.now.items c.args.number
