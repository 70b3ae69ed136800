use Rattle.std.proofs.Common.{◌≡◌, ◌∙◌, ◌++◌, ◌&&◌, ap, filter, true}
use Rattle.std.specs.Ordering.{is_le}
use Rattle.node_memory.specs.declared.key.ElementKey.{ElementKey}
use Rattle.node_memory.specs.declared.index.Marks.{Marks}
use Rattle.node_memory.specs.Entries.{elements_in}
use Rattle.node_memory.specs.Keys.{key_cmp, key_meets, entries_from, least_key}
use Rattle.node_memory.specs.Runs.{front_while}
use Rattle.node_memory.proofs.RunLemmas.{and_true}
use Rattle.node_memory.proofs.index.run_of.Goals as goal

pub run-init : goal.run-init
run-init c =
    let es = c.args.by_key.now.entries in
    let least = c.least_key-least.result in
    let from : c.range-key-items.result ≡ filter (λ (e : ElementKey × Marks). is_le (key_cmp least e.0) && true) es = c.range-key-items.ensures.between tt in
    ap (λ l. c.new-out.result.items ++ elements_in (front_while (λ (e : ElementKey × Marks). key_meets c.args.id c.args.attr c.args.value e.0) l))
    (c.into_iter-key-iterator.ensures.into_iter_gives ∙ from ∙ and_true (λ (e : ElementKey × Marks). is_le (key_cmp least e.0)) es ∙ ap (λ k. entries_from k es) c.least_key-least.ensures)
    ∙ ap (λ l. l ++ elements_in (front_while (λ (e : ElementKey × Marks). key_meets c.args.id c.args.attr c.args.value e.0) (entries_from (least_key c.args.id c.args.attr c.args.value) es))) c.new-out.ensures.items
