use Rattle.defs_run.specs.Orders.{excise}
use Rattle.command_orders.proofs.name.excise_order.Goals as goal

pub returns-in-Some-clause-order : goal.returns-in-Some-clause-order
returns-in-Some-clause-order c = c.in-Some.ensures.name excise

pub returns-in-None-clause-order : goal.returns-in-None-clause-order
returns-in-None-clause-order c = c.in-None.ensures.name excise
