use Rattle.std.proofs.Common.{◌≡◌, ◌∙◌, ◌++◌, ◌&&◌, ap, filter, true, List, ℕ}
use Rattle.std.specs.Ordering.{nat_cmp, is_le}
use Rattle.std.specs.Cmp.Lexicographic.{slice_cmp}
use Rattle.std.specs.Map.{keys_of}
use Rattle.defs_match.specs.Testing.{Bindings}
use Rattle.node_memory.specs.Changes.{begins, is_below}
use Rattle.node_memory.specs.Memories.{entries_not_below}
use Rattle.node_memory.specs.Runs.{front_while}
use Rattle.node_memory.proofs.RunLemmas.{and_true}
use Rattle.join_parts.proofs.serve.add_below.Goals as goal

pub run-init : goal.run-init
run-init c =
    let es = c.args.rows.now.entries in
    let from : c.range-tags-items.result ≡ filter (λ (e : (List ℕ) × Bindings). is_le (slice_cmp nat_cmp c.in_ok-least.least e.0) && true) es = c.range-tags-items.ensures.between tt in
    ap (λ l. c.args.out.now.items ++ filter (is_below c.args.front.now) (keys_of (front_while (λ (e : (List ℕ) × Bindings). begins c.args.front.now e.0) l)))
    (c.into_iter-tags-iterator.ensures.into_iter_gives ∙ from ∙ and_true (λ (e : (List ℕ) × Bindings). is_le (slice_cmp nat_cmp c.in_ok-least.least e.0)) es
    ∙ ap (λ t. entries_not_below t es) c.in_ok-least.ensures)
