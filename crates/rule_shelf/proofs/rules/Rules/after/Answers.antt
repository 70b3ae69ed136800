use Rattle.std.proofs.Common.{◌∙◌, ap, filter, map, nat_lt, rules}
use Rattle.std.specs.Map.{values_of}
use Rattle.defs_match.specs.Rules.{rule_seen}
use Rattle.rule_shelf.proofs.EntryLemmas.{rules_after}
use Rattle.rule_shelf.proofs.rules.Rules.after.Goals as goal

pub returns : goal.returns
returns c =
    ap (λ es. map rule_seen (values_of es)) (c.range.ensures.between (search rules)) ∙ rules_after c.self.inside.by_number.entries c.args.number c.self.invariant.numbered
    ∙ ap (λ rules. filter (λ rule. nat_lt c.args.number rule.number) (map rule_seen rules)) c.self.view_is
