use Rattle.std.proofs.Common.{◌∙◌, sym, ap}
use Rattle.std.specs.Prelude.{option_map}
use Rattle.defs_run.specs.Orders.{queue}
use Rattle.command_orders.specs.Asked.{asked_with}
use Rattle.command_orders.proofs.addition.queue_order.Goals as goal

pub returns-in-Some-clause-order : goal.returns-in-Some-clause-order
returns-in-Some-clause-order c = sym (ap (option_map (asked_with (queue c.args.adds))) c.in-Some.is) ∙ c.in_ok-addition.ensures.asked (queue c.args.adds)

pub returns-in-None-clause-order : goal.returns-in-None-clause-order
returns-in-None-clause-order c = sym (ap (option_map (asked_with (queue c.args.adds))) c.in-None.is) ∙ c.in_ok-addition.ensures.asked (queue c.args.adds)
