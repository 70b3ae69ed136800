use Rattle.std.proofs.Common.{sym, subst, List, ℕ}
use Rattle.std.specs.Map.{keys_of}
use Rattle.defs_match.specs.Rows.{Row}
use Rattle.node_memory.specs.Changes.{RowsChange}
use Rattle.node_memory.proofs.EntryLemmas.{finds_rows, keys_have}
use Rattle.join_parts.proofs.ServedLemmas.{join_served}
use Rattle.node_table.specs.Serving.{found, gone_at}
use Rattle.node_table.proofs.serving.change_of_join.Goals as goal

pub returns : goal.returns
returns c rows0 rows1 w0 w1 rc ec holds same old =
    let child = c.args.node.now.memory.rows.entries in
    let come = c.come_at.result.now in
    let gone = c.gone_at.result.now in
    let one = subst (λ (rs : List Row). RowsChange rows0 rows1 rs (gone_at c.args.stamp c.args.parent.now)) (sym c.come_at.ensures) rc in
    let two = subst (λ (ts : List (List ℕ)). RowsChange rows0 rows1 come ts) (sym c.gone_at.ensures) one in
    join_served c.args.p.now rows0 rows1 come c.in_ok-added.added.items gone (keys_of child) c.in_ok-removed.removed.items w0 w1 c.args.index.now c.args.come c.args.goes (found c.args.parent.now.memory) two ec holds same
    (λ x i. keys_have child x ((finds_rows child c.in_ok-removed.ensures.ordered x).0 ((old x).1 i)))
    c.in_ok-added.ensures c.in_ok-removed.ensures.goes
