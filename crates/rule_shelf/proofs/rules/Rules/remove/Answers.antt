use Rattle.std.proofs.Common.{◌∙◌, ap, map, option_map, subst}
use Rattle.defs_match.specs.Contents.{rule_numbered, without_rule}
use Rattle.defs_match.specs.Rules.{rule_seen}
use Rattle.rule_shelf.specs.Marks.{Forgets}
use Rattle.rule_shelf.proofs.EntryLemmas.{found, rules_gone, shelf_gone}
use Rattle.rule_shelf.proofs.rules.Rules.remove.Goals as goal

pub invariant_of-self : goal.invariant_of-self
invariant_of-self c =
    shelf_gone _ _ _ _ c.args.number c.in-Some.rule c.self.invariant c.in-Some.ensures.value c.in-Some.ensures.entries
    (subst (λ n. Forgets c.in-Some.rule.production.name c.args.number n c.self.inside.index c.forget.new.self) (rw c.deref.ensures at c.fingerprint-mark.ensures) (rw c.deref-in-Some.ensures at c.forget.ensures))

pub returns-in-Some-clause-removed : goal.returns-in-Some-clause-removed
returns-in-Some-clause-removed c =
    ap (option_map rule_seen) c.in-Some.ensures.value ∙ found c.self.inside.by_number.entries c.args.number c.self.invariant.numbered
    ∙ ap (λ rules. rule_numbered c.args.number (map rule_seen rules)) c.self.view_is

pub returns-in-Some-clause-rest : goal.returns-in-Some-clause-rest
returns-in-Some-clause-rest c =
    rules_gone c.self.inside.by_number.entries _ c.self.inside.index c.args.number c.self.invariant c.in-Some.ensures.entries
    ∙ ap (λ rules. without_rule (map rule_seen rules) c.args.number) c.self.view_is

pub returns-in-None-clause-removed : goal.returns-in-None-clause-removed
returns-in-None-clause-removed c =
    ap (option_map rule_seen) c.in-None.ensures.value ∙ found c.self.inside.by_number.entries c.args.number c.self.invariant.numbered
    ∙ ap (λ rules. rule_numbered c.args.number (map rule_seen rules)) c.self.view_is

pub returns-in-None-clause-rest : goal.returns-in-None-clause-rest
returns-in-None-clause-rest c =
    rules_gone c.self.inside.by_number.entries _ c.self.inside.index c.args.number c.self.invariant c.in-None.ensures.entries
    ∙ ap (λ rules. without_rule (map rule_seen rules) c.args.number) c.self.view_is
