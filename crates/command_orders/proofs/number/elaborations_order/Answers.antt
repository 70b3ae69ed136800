use Rattle.defs_run.specs.Orders.{max_elaborations}
use Rattle.command_orders.proofs.number.elaborations_order.Goals as goal

pub returns-in-Some-clause-order : goal.returns-in-Some-clause-order
returns-in-Some-clause-order c = c.in-Some.ensures.number c.args.table.now max_elaborations

pub returns-in-None-clause-order : goal.returns-in-None-clause-order
returns-in-None-clause-order c = c.in-None.ensures.number c.args.table.now max_elaborations
