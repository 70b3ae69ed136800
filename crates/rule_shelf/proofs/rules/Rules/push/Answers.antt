use Rattle.std.proofs.Common.{◌∙◌, ◌<◌, ◌^◌, ◌++◌, ◌∷◌, [], ap, arith, map, subst, sym}
use Rattle.defs_match.specs.Rules.{rule_seen}
use Rattle.rule_shelf.specs.Marks.{Notes}
use Rattle.rule_shelf.specs.Shelf.{AreBelow, is_justified}
use Rattle.rule_shelf.proofs.EntryLemmas.{rules_in, shelf_back, shelf_pushed, values_pushed}
use Rattle.rule_shelf.proofs.IndexLemmas.{prints_nowhere, stands_nowhere}
use Rattle.rule_shelf.proofs.rules.Rules.push.Goals as goal

pub note-requires-clause-names : goal.note-requires-clause-names
note-requires-clause-names c =
    stands_nowhere (rules_in c.self.inside.by_number.entries) c.self.inside.index c.deref.result.now.name c.args.rule.number c.self.invariant.indexed
    (subst (λ rules. AreBelow c.args.rule.number (map rule_seen rules)) (sym c.self.view_is) c.requires)

pub note-requires-clause-prints : goal.note-requires-clause-prints
note-requires-clause-prints c =
    prints_nowhere (rules_in c.self.inside.by_number.entries) c.self.inside.index c.fingerprint-mark.result c.args.rule.number c.self.invariant.indexed
    (subst (λ rules. AreBelow c.args.rule.number (map rule_seen rules)) (sym c.self.view_is) c.requires)

pub invariant_of-self-in-Ok : goal.invariant_of-self-in-Ok
invariant_of-self-in-Ok c =
    let small : c.args.rule.number < 2 ^ 64 = omega arith in
    shelf_pushed _ _ _ _ c.args.rule c.self.invariant (subst (λ rules. AreBelow c.args.rule.number (map rule_seen rules)) (sym c.self.view_is) c.requires) c.in-Ok.ensures.entries small
    (subst (λ n. Notes c.args.rule.production.name c.args.rule.number n (is_justified (rule_seen c.args.rule)) c.self.inside.index c.note.new.self) (rw c.deref-2.ensures at c.fingerprint-mark.ensures)
    (subst (λ b. Notes c.args.rule.production.name c.args.rule.number c.fingerprint-mark.result b c.self.inside.index c.note.new.self) c.is_justified.ensures (rw c.deref.ensures at c.in_ok-note.ensures.ok)))

pub returns-in-Ok-clause-ok : goal.returns-in-Ok-clause-ok
returns-in-Ok-clause-ok c =
    values_pushed _ _ _ c.note.new.self c.args.rule c.self.invariant (subst (λ rules. AreBelow c.args.rule.number (map rule_seen rules)) (sym c.self.view_is) c.requires) c.in-Ok.ensures.entries
    ∙ ap (λ rules. rules ++ c.args.rule ∷ []) c.self.view_is

pub invariant_of-self-in-Err : goal.invariant_of-self-in-Err
invariant_of-self-in-Err c =
    shelf_back _ _ _ _ _ c.args.rule c.fingerprint-mark.result c.is_justified.result c.self.invariant (subst (λ rules. AreBelow c.args.rule.number (map rule_seen rules)) (sym c.self.view_is) c.requires) c.in-Err.ensures.err
    (rw c.deref.ensures at c.in_ok-note.ensures.ok) (rw c.deref.ensures at c.forget.ensures)
