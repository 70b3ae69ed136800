use Rattle.std.proofs.Common.{◌≡◌, ◌-◌}
use Rattle.soar_rule.specs.Repeat.{repeated}
use Rattle.condition_order.specs.Orders.{AreElementsKnown}
use Rattle.condition_order.specs.Steps.{order_seen}
use Rattle.defs_soar.specs.ConditionOrder.{one_ground_more}
use Rattle.condition_order.proofs.ordering.take_all.Given as goal

abbrev pub invariant-rounds : goal.invariant-rounds
invariant-rounds l = record {
  known : AreElementsKnown l.table l.order.left.items;
  whole : repeated (l.rounds - l.counter) (one_ground_more l.table) (order_seen l.order) ≡ repeated l.rounds (one_ground_more l.table) (order_seen l.initial.order);
}
