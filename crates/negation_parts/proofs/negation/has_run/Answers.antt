use Rattle.std.proofs.Common.{◌≡◌, ◌∙◌, ◌&&◌, ap, filter, true, List, ℕ}
use Rattle.std.specs.Ordering.{nat_cmp, is_le}
use Rattle.std.specs.Cmp.Lexicographic.{slice_cmp}
use Rattle.defs_match.specs.Testing.{Bindings}
use Rattle.node_memory.specs.Memories.{entries_not_below}
use Rattle.negation_parts.specs.Negations.{first_begins}
use Rattle.node_memory.proofs.RunLemmas.{and_true}
use Rattle.negation_parts.proofs.negation.has_run.Goals as goal

pub run-init : goal.run-init
run-init c =
    let es = c.args.rows.now.entries in
    let from : c.range-tags-items.result ≡ filter (λ (e : (List ℕ) × Bindings). is_le (slice_cmp nat_cmp c.in_ok-least.least e.0) && true) es = c.range-tags-items.ensures.between tt in
    ap (first_begins c.args.front.now) (c.into_iter-tags-iterator.ensures.into_iter_gives ∙ from ∙ and_true (λ (e : (List ℕ) × Bindings). is_le (slice_cmp nat_cmp c.in_ok-least.least e.0)) es
    ∙ ap (λ t. entries_not_below t es) c.in_ok-least.ensures)
