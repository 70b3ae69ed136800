use Rattle.std.proofs.Common.{◌∙◌, sym, ap₂, None}
use Rattle.condition_order.specs.Reaching.{least_reached}
use Rattle.condition_order.specs.Steps.{order_seen}
use Rattle.condition_order.proofs.ReachLemmas.{next_none, next_some}
use Rattle.condition_order.proofs.ordering.take_next.Goals as goal

pub returns-in_ok-take-in-Some-clause-next : goal.returns-in_ok-take-in-Some-clause-next
returns-in_ok-take-in-Some-clause-next c =
    let found = c.in-Some.ensures ∙ ap₂ (λ places left. least_reached c.args.table.now places None left) c.as_slice.ensures.value c.as_slice-2.ensures.value in
    c.in_ok-take-in-Some.ensures ∙ sym (next_some c.args.table.now (order_seen c.args.order.now) c.in-Some.least found)

pub returns-in-None-clause-next : goal.returns-in-None-clause-next
returns-in-None-clause-next c =
    let found = c.in-None.ensures ∙ ap₂ (λ places left. least_reached c.args.table.now places None left) c.as_slice.ensures.value c.as_slice-2.ensures.value in
    sym (next_none c.args.table.now (order_seen c.args.order.now) found)
