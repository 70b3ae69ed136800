use Rattle.std.proofs.Common.{◌≡◌, ◌∙◌, ◌+◌, ◌-◌, suc, sym, ap, subst, arith}
use Rattle.soar_rule.specs.Repeat.{repeated}
use Rattle.condition_order.specs.Orders.{AreElementsKnown}
use Rattle.condition_order.specs.Steps.{order_seen}
use Rattle.condition_order.proofs.StepLemmas.{known_next, repeated_more, repeated_same}
use Rattle.defs_soar.specs.ConditionOrder.{Ordered, one_ground_more}
use Rattle.condition_order.proofs.ordering.take_all.Goals as goal

pub returns-then-not-branch : goal.returns-then-not-branch
returns-then-not-branch c =
    let words = c.args.table.now in
    let old = order_seen c.rounds.order in
    let same : order_seen c.take_next.new.order ≡ old = c.in_ok-take_next.ensures.done c.if-not-branch.true in
    let rests : one_ground_more words old ≡ old = sym c.in_ok-take_next.ensures.next ∙ same in
    same ∙ sym (repeated_same (c.args.rounds - c.rounds.counter) (one_ground_more words) old rests) ∙ c.rounds.invariant.whole

pub rounds-preserved : goal.rounds-preserved
rounds-preserved c =
    let words = c.args.table.now in
    let old = order_seen c.rounds.order in
    let next : order_seen c.take_next.new.order ≡ one_ground_more words old = c.in_ok-take_next.ensures.next in
    let left = c.args.rounds - (c.rounds.counter + 1) in
    let one : c.args.rounds - c.rounds.counter ≡ suc left = omega (arith, c.rounds-test.true) in
    record {
      known = subst (λ (o : Ordered). AreElementsKnown words o.left) (sym next) (known_next words old c.rounds.invariant.known);
      whole = ap (repeated left (one_ground_more words)) next ∙ sym (repeated_more (c.args.rounds - c.rounds.counter) left (one_ground_more words) old one) ∙ c.rounds.invariant.whole;
    }
