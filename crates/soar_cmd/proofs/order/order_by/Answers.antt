use Rattle.std.proofs.Common.{◌∙◌, map, sym, ap, subst}
use Rattle.command_orders.specs.Asked.{form_seen}
use Rattle.command_orders.specs.Behind.{AreArgumentsKnown, argument_seen}
use Rattle.command_orders.proofs.OrderLemmas.{order_behind}
use Rattle.soar_cmd.proofs.order.order_by.Goals as goal

pub order_of-requires : goal.order_of-requires
order_of-requires c = subst (AreArgumentsKnown c.args.table.now) (sym c.as_slice.ensures) (c.in_ok-arguments.ensures.known c.args.table.now c.requires)

pub returns-clause-order : goal.returns-clause-order
returns-clause-order c =
    order_behind (form_seen c.args.form) c.args.table.now c.args.text.now c.args.tokens.now (map (argument_seen c.args.table.now) c.as_slice.result.now) c.order_of.result
    (ap (map (argument_seen c.args.table.now)) c.as_slice.ensures ∙ c.in_ok-arguments.ensures.arguments c.args.table.now) c.order_of.ensures.order
