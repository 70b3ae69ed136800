use Rattle.std.proofs.Common.{◌∙◌, sym, ap}
use Rattle.std.specs.Prelude.{option_map}
use Rattle.defs_run.specs.Orders.{add_wme}
use Rattle.command_orders.specs.Asked.{asked_with}
use Rattle.command_orders.proofs.addition.addition_order.Goals as goal

pub returns-in-Some-clause-order : goal.returns-in-Some-clause-order
returns-in-Some-clause-order c = sym (ap (option_map (asked_with add_wme)) c.in-Some.is) ∙ c.in_ok-addition.ensures.asked add_wme

pub returns-in-None-clause-order : goal.returns-in-None-clause-order
returns-in-None-clause-order c = sym (ap (option_map (asked_with add_wme)) c.in-None.is) ∙ c.in_ok-addition.ensures.asked add_wme
