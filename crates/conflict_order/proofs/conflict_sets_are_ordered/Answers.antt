use Rattle.conflict_order.proofs.InstanceOrder.{conflict_order, leaves_own}
use Rattle.conflict_order.proofs.conflict_sets_are_ordered.Goals as goal

pub returns-clause-order : goal.returns-clause-order
returns-clause-order c = conflict_order

pub returns-clause-without : goal.returns-clause-without
returns-clause-without c = leaves_own
