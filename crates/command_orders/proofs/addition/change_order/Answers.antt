use Rattle.std.proofs.Common.{◌≡◌, ◌∙◌, ℕ, List, [], ◌∷◌, map, sym, ap}
use Rattle.std.specs.Prelude.{unwrap_or}
use Rattle.soar_sym.specs.Words.{Texts, text_of}
use Rattle.defs_run.specs.Arguments.{Argument, bare}
use Rattle.defs_run.specs.CommandForms.{input_order, triple_order}
use Rattle.defs_run.specs.Orders.{queue}
use Rattle.command_orders.specs.Behind.{argument_seen}
use Rattle.command_orders.proofs.OrderLemmas.{input_is, order_same}
use Rattle.command_orders.proofs.addition.change_order.Goals as goal

pub returns-in-Some-clause-order : goal.returns-in-Some-clause-order
returns-in-Some-clause-order c =
    let words : Texts = c.args.table.now in
    let behind : List Argument = map (argument_seen words) c.args.triple.now in
    let same : text_of words c.args.word ≡ c.text.result.now = ap (λ o. unwrap_or o []) c.text.ensures in
    order_same c.queue_order.result (triple_order words (queue c.in-Some.adds) behind) (input_order words (bare (text_of words c.args.word) ∷ behind))
    (input_is words c.text.result.now c.in-Some.adds behind c.in-Some.ensures ∙ ap (λ (text : List ℕ). input_order words (bare text ∷ behind)) (sym same)) c.queue_order.ensures.order
