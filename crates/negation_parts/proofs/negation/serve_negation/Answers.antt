use Rattle.std.proofs.Common.{sym, subst, List, ℕ}
use Rattle.std.specs.Ordering.{nat_cmp}
use Rattle.std.specs.Cmp.Lexicographic.{slice_cmp}
use Rattle.std.specs.BTreeMap.{get}
use Rattle.defs_match.specs.Rows.{Row}
use Rattle.node_memory.specs.Changes.{RowsChange}
use Rattle.node_memory.specs.Memories.{rows_in}
use Rattle.negation_parts.specs.Negations.{kept, let_through, negation_gone}
use Rattle.negation_parts.proofs.NegationLemmas.{negation_told, kept_one_each}
use Rattle.node_memory.proofs.EntryLemmas.{finds_rows}
use Rattle.negation_parts.proofs.negation.serve_negation.Goals as goal

pub returns-clause-serves : goal.returns-clause-serves
returns-clause-serves c rows0 rows1 inner0 inner1 hp rc hi ic long0 long1 one old =
    let inside = rows_in c.args.inner.now.rows.entries in
    let found = finds_rows c.args.inner.now.rows.entries c.in_ok-added.ensures.ordered in
    let plain : RowsChange (kept inner0 rows0) (kept inner1 rows1) (let_through (get (slice_cmp nat_cmp) c.args.parent.now.rows) c.args.n c.args.rows_come.now inside c.args.inner_gone.now) (negation_gone c.args.n c.args.rows_gone.now c.args.inner_come.now) =
    negation_told c.args.n (get (slice_cmp nat_cmp) c.args.parent.now.rows) inside rows0 rows1 c.args.rows_come.now inner0 inner1 c.args.inner_come.now c.args.rows_gone.now c.args.inner_gone.now
    (λ x. ((λ i. (found x).0 ((hi x).1 i)), (λ i. (hi x).0 ((found x).1 i)))) hp rc ic long0 long1 in
    let told : RowsChange (kept inner0 rows0) (kept inner1 rows1) c.in_ok-added.added.items c.in_ok-removed.removed.items =
    subst (λ (rs : List Row). RowsChange (kept inner0 rows0) (kept inner1 rows1) rs c.in_ok-removed.removed.items) (sym c.in_ok-added.ensures.come)
    (subst (λ (ts : List (List ℕ)). RowsChange (kept inner0 rows0) (kept inner1 rows1) (let_through (get (slice_cmp nat_cmp) c.args.parent.now.rows) c.args.n c.args.rows_come.now inside c.args.inner_gone.now) ts) (sym c.in_ok-removed.ensures) plain) in (
      c.in_ok-change.ensures.holds (kept inner0 rows0) (kept inner1 rows1) old
          (subst (λ (rs : List Row). RowsChange (kept inner0 rows0) (kept inner1 rows1) rs c.as_slice-2.result.now) (sym c.as_slice.ensures.value)
          (subst (λ (ts : List (List ℕ)). RowsChange (kept inner0 rows0) (kept inner1 rows1) c.in_ok-added.added.items ts) (sym c.as_slice-2.ensures.value) told)) (kept_one_each inner1 rows1 one),
      told,
    )
