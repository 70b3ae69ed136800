use Rattle.std.proofs.Common.{◌∙◌, sym, ap, subst, take, List}
use Rattle.soar_rule.specs.declared.cond.Cond.{Cond}
use Rattle.soar_rule.specs.Conditions.{condition, conditions, Condition, Conditions}
use Rattle.soar_rule.proofs.SeenLemmas.{conj_seen}
use Rattle.rete_beta.specs.Joins.{node_at}
use Rattle.rete_beta.proofs.ViewLemmas.{if_ok}
use Rattle.rete_net.specs.Leading.{Leads, LeadsBy}
use Rattle.rete_net.specs.Requests.{AsksFor}
use Rattle.rete_net.proofs.AskLemmas.{asks_conjunctive, asks_more, conditions_next}
use Rattle.rete_net.proofs.asking.+asking.Goals as goal

pub ask_all-conds-preserved : goal.ask_all-conds-preserved
ask_all-conds-preserved t c =
    let old = node_at c.args.joins.now in
    let new = node_at c.ask_one.new.joins in
    let before = c.args.nodes.now in
    let after = c.ask_one.new.nodes in
    record {
      works = c.in_ok-at.ensures.works;
      asks =
          subst (λ (cs : Conditions). AsksFor (λ keys l m. Leads keys cs c.args.parent l m) old new before after c.in_ok-at.at)
          (sym (conditions_next c.args.conds.now c.conds.cond-index c.cond-item.result c.conds-test.true c.cond-item.is))
          (asks_more old (node_at c.conds.joins) new before c.conds.nodes after c.args.parent c.conds.at c.in_ok-at.at (conditions (take c.conds.cond-index c.args.conds.now)) (condition c.cond-item.result)
          c.conds.invariant.asks c.in_ok-at.ensures.asks);
      elements = c.in_ok-at.ensures.elements ∙ c.conds.invariant.elements;
    }

pub ask_one-returns-in_ok-inner-in-Conj-clause-asks : goal.ask_one-returns-in_ok-inner-in-Conj-clause-asks
ask_one-returns-in_ok-inner-in-Conj-clause-asks t c =
    let old = node_at c.args.joins.now in
    let middle = node_at c.ask_all.new.joins in
    let new = node_at c.ask_negation.new.joins in
    let before = c.args.nodes.now in
    let inner = c.in_ok-inner-in-Conj.inner in
    let first =
    subst (λ (inside : List Cond). AsksFor (λ keys l m. Leads keys (conditions inside) c.args.parent l m) old middle before c.ask_all.new.nodes inner) c.as_slice.ensures c.in_ok-inner-in-Conj.ensures.asks in
    if_ok
    (λ n asks.
    subst (λ (d : Condition). AsksFor (λ keys l m. LeadsBy keys d c.args.parent l m) old new before c.ask_negation.new.nodes n) (sym (ap condition c.in-Conj.is ∙ conj_seen c.in-Conj.inside))
    (asks_conjunctive old middle new before c.ask_all.new.nodes c.ask_negation.new.nodes c.args.parent inner n (conditions c.in-Conj.inside) first asks))
    c.ask_negation.result c.ask_negation.ensures.asks
