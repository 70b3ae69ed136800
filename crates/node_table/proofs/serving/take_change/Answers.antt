use Rattle.std.proofs.Common.{refl, sym, subst, List, ℕ}
use Rattle.defs_match.specs.Rows.{Row}
use Rattle.node_memory.specs.Changes.{RowsChange}
use Rattle.node_table.proofs.serving.take_change.Goals as goal

pub returns-clause-served : goal.returns-clause-served
returns-clause-served c = record {
  key = refl;
  tags = refl;
  made = refl;
  alpha = refl;
  requests = refl;
  stamp = refl;
  come = refl;
  gone = refl;
  joined = c.in_ok-change.ensures.joined;
  indexed = c.in_ok-change.ensures.indexed;
  holds = λ rows0 rows1 old rc one. c.in_ok-change.ensures.holds rows0 rows1 old
      (subst (λ (ts : List (List ℕ)). RowsChange rows0 rows1 c.as_slice.result.now ts) (sym c.as_slice-2.ensures.value)
      (subst (λ (rs : List Row). RowsChange rows0 rows1 rs c.args.gone.items) (sym c.as_slice.ensures.value) rc)) one;
}
