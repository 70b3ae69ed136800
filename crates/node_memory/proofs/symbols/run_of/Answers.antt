use Rattle.std.proofs.Common.{◌≡◌, ◌∙◌, ◌++◌, ◌&&◌, ap, map, filter, true, ℕ, List}
use Rattle.std.specs.Ordering.{is_le}
use Rattle.node_memory.specs.declared.symbols.SymbolKey.{SymbolKey}
use Rattle.node_memory.specs.Symbols.{symbol_cmp, is_of, least_of, from_least}
use Rattle.node_memory.specs.Runs.{front_while}
use Rattle.node_memory.proofs.RunLemmas.{and_true}
use Rattle.node_memory.proofs.symbols.run_of.Goals as goal

pub run-init : goal.run-init
run-init c =
    let es = c.args.keys.now.entries in
    let least = c.new-least.result in
    let with_tags : List ℕ → SymbolKey = λ t. record { joined = c.args.joined; symbols = c.args.symbols; tags = t } in
    let is : least ≡ least_of c.args.joined c.args.symbols = c.new-least.ensures ∙ ap with_tags (c.new-4.ensures ∙ c.new-3.ensures) in
    let from : c.range-key-items.result ≡ filter (λ e. is_le (symbol_cmp least e.0) && true) es = c.range-key-items.ensures.between tt in
    ap (λ l. c.new-out.result.items ++ map (λ e. e.0.tags) (front_while (λ e. is_of c.args.joined c.args.symbols e.0) l))
    (c.into_iter-key-iterator.ensures.into_iter_gives ∙ from ∙ and_true (λ e. is_le (symbol_cmp least e.0)) es ∙ ap (λ k. from_least k es) is)
    ∙ ap (λ l. l ++ map (λ e. e.0.tags) (front_while (λ e. is_of c.args.joined c.args.symbols e.0) (from_least (least_of c.args.joined c.args.symbols) es))) c.new-out.ensures.items
