use Rattle.std.proofs.Common.{◌≡◌, ℕ, List, map, length, sym, subst, add-one, arith}
use Rattle.std.proofs.lemmas.List.{length-map}
use Rattle.soar_rule.specs.Checking.{linked_by_all}
use Rattle.soar_rule.specs.Productions.{ActionOf, action_seen}
use Rattle.soar_rule.specs.Repeat.{repeated}
use Rattle.rule_check.specs.Marking.{AreMarked}
use Rattle.rule_check.specs.declared.marks.Marks.{Marks}
use Rattle.rule_check.proofs.LinkingLemmas.{repeated_more, settled_after}
use Rattle.rule_check.proofs.linking.linked_variables.Goals as goal

pub returns-then-not-branch : goal.returns-then-not-branch
returns-then-not-branch c = λ known marked.
    let actions : List ActionOf = map action_seen c.args.actions.now in
    let step : List ℕ → List ℕ = linked_by_all actions in
    let same : c.link_all.new.linked ≡ c.rounds.linked = c.in_ok-link_all.ensures.same c.if-not-branch.true in
    subst (λ (linked : Marks). AreMarked linked.marks (repeated (length actions) step known)) (sym same)
    (settled_after step c.rounds.linked.marks
    (λ more joined. subst (λ (linked : Marks). AreMarked linked.marks (step more)) same (c.in_ok-link_all.ensures.joined more joined))
    c.rounds.index (length actions) known (simp length-map (omega arith)) (c.rounds.invariant known marked))

pub rounds-preserved : goal.rounds-preserved
rounds-preserved c = λ known marked.
    let step : List ℕ → List ℕ = linked_by_all (map action_seen c.args.actions.now) in
    subst (λ n. AreMarked c.link_all.new.linked.marks (repeated n step known)) (sym (add-one c.rounds.index))
    (subst (AreMarked c.link_all.new.linked.marks) (repeated_more c.rounds.index step known)
    (c.in_ok-link_all.ensures.joined (repeated c.rounds.index step known) (c.rounds.invariant known marked)))
