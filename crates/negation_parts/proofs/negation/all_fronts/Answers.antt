use Rattle.std.proofs.Common.{◌∙◌, ◌++◌, ap₂, take, List, ℕ}
use Rattle.std.specs.Ordering.{nat_cmp}
use Rattle.std.specs.Cmp.Lexicographic.{slice_cmp}
use Rattle.std.specs.BTreeMap.{get}
use Rattle.node_memory.specs.Memories.{row_found}
use Rattle.negation_parts.proofs.NegationLemmas.{found_more}
use Rattle.negation_parts.proofs.negation.all_fronts.Goals as goal

pub gone-preserved : goal.gone-preserved
gone-preserved c =
    let found = get (slice_cmp nat_cmp) c.args.rows.now in
    c.in_ok-add_front.ensures
    ∙ ap₂ (λ l (t : List ℕ). l ++ row_found (take c.args.n t) (found (take c.args.n t))) c.gone.invariant c.as_slice.ensures
    ∙ found_more found c.args.n c.args.gone.now c.gone.tags-index c.tags-item.result c.gone-test.true c.tags-item.is
