use Rattle.std.proofs.Common.{◌∙◌, ap, ap₂}
use Rattle.soar_rule.specs.Repeat.{repeated}
use Rattle.condition_order.specs.Steps.{first_order}
use Rattle.defs_soar.specs.ConditionOrder.{one_ground_more, ordered_grounds}
use Rattle.condition_order.proofs.ordering.ordered.Goals as goal

pub returns : goal.returns
unfolding ordered_grounds
returns c =
    c.finished.ensures
    ∙ c.in_ok-take_all.ensures
    ∙ ap₂ (λ n order. repeated n (one_ground_more c.args.table.now) order) c.len.ensures (c.in_ok-order.ensures ∙ ap (first_order c.args.table.now) c.as_slice.ensures)
