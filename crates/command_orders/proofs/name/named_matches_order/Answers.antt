use Rattle.defs_run.specs.Orders.{matches_of}
use Rattle.command_orders.proofs.name.named_matches_order.Goals as goal

pub returns-in-Some-clause-order : goal.returns-in-Some-clause-order
returns-in-Some-clause-order c = c.in-Some.ensures.name matches_of

pub returns-in-None-clause-order : goal.returns-in-None-clause-order
returns-in-None-clause-order c = c.in-None.ensures.name matches_of
