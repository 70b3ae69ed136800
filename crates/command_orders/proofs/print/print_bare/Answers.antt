use Rattle.std.proofs.Common.{◌≡◌, ◌∙◌, Some, List, [], ℕ, ap, sym}
use Rattle.std.specs.Prelude.{unwrap_or}
use Rattle.soar_sym.specs.Words.{text_of}
use Rattle.command_orders.specs.Asked.{listing_by, order_seen}
use Rattle.command_orders.proofs.PrintLemmas.{listed, word_shown}
use Rattle.command_orders.proofs.print.print_bare.Goals as goal

pub returns-in-Some-clause-order : goal.returns-in-Some-clause-order
returns-in-Some-clause-order c =
    let same : text_of c.args.table.now c.args.word ≡ c.text.result.now = ap (λ o. unwrap_or o []) c.text.ensures in
    listed c.args.table.now (text_of c.args.table.now c.args.word) (order_seen c.in-Some.order) (c.in-Some.ensures.order ∙ ap listing_by (sym same))

pub returns-in-None-clause-order : goal.returns-in-None-clause-order
returns-in-None-clause-order c =
    let text : List ℕ = text_of c.args.table.now c.args.word in
    let same : text ≡ c.text.result.now = ap (λ o. unwrap_or o []) c.text.ensures in
    ap Some c.print_word.ensures.order ∙ sym (word_shown c.args.table.now text (c.in-None.ensures.order ∙ ap listing_by (sym same)))
