use Rattle.std.proofs.Common.{sym, subst, List, ℕ}
use Rattle.defs_match.specs.Rows.{Row}
use Rattle.node_memory.specs.Changes.{RowsChange}
use Rattle.node_memory.specs.Memories.{rows_in}
use Rattle.node_memory.proofs.EntryLemmas.{finds_rows}
use Rattle.negation_parts.specs.Negations.{kept, let_through, negation_gone}
use Rattle.negation_parts.proofs.NegationLemmas.{negation_told}
use Rattle.node_table.specs.Serving.{found, come_at, gone_at}
use Rattle.node_table.proofs.serving.change_of_negation.Goals as goal

pub returns : goal.returns
returns c rows0 rows1 inner0 inner1 rc ic holds held long0 long1 =
    let p = c.args.parent.now in
    let m = c.args.inner.now in
    let inside = rows_in m.memory.rows.entries in
    let all = finds_rows m.memory.rows.entries c.in_ok-added.ensures.ordered in
    let told : RowsChange (kept inner0 rows0) (kept inner1 rows1) (let_through (found p.memory) p.tags (come_at c.args.stamp p) inside (gone_at c.args.stamp m)) (negation_gone p.tags (gone_at c.args.stamp p) (come_at c.args.stamp m)) =
    negation_told p.tags (found p.memory) inside rows0 rows1 (come_at c.args.stamp p) inner0 inner1 (come_at c.args.stamp m) (gone_at c.args.stamp p) (gone_at c.args.stamp m)
    (λ x. ((λ i. (all x).0 ((held x).1 i)), λ i. (held x).0 ((all x).1 i))) holds rc ic long0 long1 in
    let one = subst (λ (rs : List Row). RowsChange (kept inner0 rows0) (kept inner1 rows1) (let_through (found p.memory) p.tags rs inside (gone_at c.args.stamp m)) (negation_gone p.tags (gone_at c.args.stamp p) (come_at c.args.stamp m))) (sym c.come_at.ensures) told in
    let two = subst (λ (ts : List (List ℕ)). RowsChange (kept inner0 rows0) (kept inner1 rows1) (let_through (found p.memory) p.tags c.come_at.result.now inside ts) (negation_gone p.tags (gone_at c.args.stamp p) (come_at c.args.stamp m))) (sym c.gone_at.ensures) one in
    let three = subst (λ (rs : List Row). RowsChange (kept inner0 rows0) (kept inner1 rows1) rs (negation_gone p.tags (gone_at c.args.stamp p) (come_at c.args.stamp m))) (sym c.in_ok-added.ensures.come) two in
    let four = subst (λ (ts : List (List ℕ)). RowsChange (kept inner0 rows0) (kept inner1 rows1) c.in_ok-added.added.items (negation_gone p.tags ts (come_at c.args.stamp m))) (sym c.gone_at-2.ensures) three in
    let five = subst (λ (rs : List Row). RowsChange (kept inner0 rows0) (kept inner1 rows1) c.in_ok-added.added.items (negation_gone p.tags c.gone_at-2.result.now rs)) (sym c.come_at-2.ensures) four in
    subst (λ (ts : List (List ℕ)). RowsChange (kept inner0 rows0) (kept inner1 rows1) c.in_ok-added.added.items ts) (sym c.in_ok-removed.ensures) five
