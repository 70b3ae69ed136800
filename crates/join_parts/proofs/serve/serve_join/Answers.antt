use Rattle.std.proofs.Common.{sym, subst, List, ℕ}
use Rattle.std.specs.Ordering.{nat_cmp}
use Rattle.std.specs.Cmp.Lexicographic.{slice_cmp}
use Rattle.std.specs.BTreeMap.{get}
use Rattle.std.specs.Map.{keys_of}
use Rattle.defs_match.specs.Rows.{Row}
use Rattle.node_memory.specs.Changes.{join, RowsChange}
use Rattle.node_memory.proofs.EntryLemmas.{finds_rows, keys_have}
use Rattle.join_parts.proofs.ServedLemmas.{join_served}
use Rattle.join_parts.proofs.serve.serve_join.Goals as goal

pub returns-clause-serves : goal.returns-clause-serves
returns-clause-serves c rows0 rows1 w0 w1 rc ec holds same old one =
    let child = c.args.child.now.rows.entries in
    let told : RowsChange (join c.args.p.now w0 rows0) (join c.args.p.now w1 rows1) c.in_ok-added.added.items c.in_ok-removed.removed.items =
    join_served c.args.p.now rows0 rows1 c.args.rows_come.now c.in_ok-added.added.items c.args.rows_gone.now (keys_of child) c.in_ok-removed.removed.items w0 w1 c.args.index.now c.args.come c.args.goes (get (slice_cmp nat_cmp) c.args.parent.now.rows) rc ec holds same
    (λ x i. keys_have child x ((finds_rows child c.in_ok-removed.ensures.ordered x).0 ((old x).1 i)))
    c.in_ok-added.ensures c.in_ok-removed.ensures.goes in (
      c.in_ok-change.ensures.holds (join c.args.p.now w0 rows0) (join c.args.p.now w1 rows1) old
          (subst (λ (rs : List Row). RowsChange (join c.args.p.now w0 rows0) (join c.args.p.now w1 rows1) rs c.as_slice-2.result.now) (sym c.as_slice.ensures.value)
          (subst (λ (ts : List (List ℕ)). RowsChange (join c.args.p.now w0 rows0) (join c.args.p.now w1 rows1) c.in_ok-added.added.items ts) (sym c.as_slice-2.ensures.value) told)) one,
      told,
    )
