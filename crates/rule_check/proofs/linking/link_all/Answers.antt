use Rattle.std.proofs.Common.{rules, map, take, subst}
use Rattle.std.proofs.lemmas.List.{take_all}
use Rattle.soar_rule.specs.Checking.{linked_by_all}
use Rattle.soar_rule.specs.Productions.{action_seen}
use Rattle.rule_check.specs.Marking.{AreMarked}
use Rattle.rule_check.proofs.LinkingLemmas.{linked_by_more}
use Rattle.rule_check.proofs.linking.link_all.Goals as goal

pub actions-preserved : goal.actions-preserved
actions-preserved c = record {
  joined = λ known marked.
      subst (AreMarked c.link.new.linked.marks) (linked_by_more c.args.actions.now c.actions.action-index c.action-item.result known c.actions-test.true c.action-item.is)
      (c.in_ok-link.ensures.joined (linked_by_all (map action_seen (take c.actions.action-index c.args.actions.now)) known) (c.actions.invariant.joined known marked));
  same = search rules;
}

pub returns-clause-joined : goal.returns-clause-joined
returns-clause-joined c = λ known marked.
    subst (λ actions. AreMarked c.actions.linked.marks (linked_by_all (map action_seen actions) known)) (take_all c.actions.action-index c.args.actions.now c.actions-test.false)
    (c.actions.invariant.joined known marked)
