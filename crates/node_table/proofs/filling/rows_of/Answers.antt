use Rattle.std.proofs.Common.{◌∙◌, inl, inr, sym, subst, List}
use Rattle.defs_match.specs.Laws.{IsIn}
use Rattle.defs_match.specs.Rows.{Row}
use Rattle.node_memory.specs.Memories.{rows_in}
use Rattle.node_memory.proofs.ChangeLemmas.{in_join, in_join_back}
use Rattle.node_memory.proofs.EntryLemmas.{finds_rows}
use Rattle.node_table.proofs.filling.rows_of.Goals as goal

pub returns : goal.returns
returns c rows w holds same x =
    let es = c.args.parent.now.rows.entries in
    let p = c.args.p.now in
    let seen = c.as_slice.result.now in
    let seen_is = c.as_slice.ensures.value in
    let found_rows = finds_rows es c.in_ok-rows.ensures.ordered in (
      (λ i. elim ((c.in_ok-come.ensures x).0 i) [
        | inl k ↦ (
            let from = in_join p c.args.index.now seen x k in
            let there : IsIn from.0 (rows_in es) = subst (λ (l : List Row). IsIn from.0 l) (seen_is ∙ c.in_ok-rows.ensures.rows) from.2 in
            in_join_back p w rows x from.0 from.1 ((holds from.0).0 ((found_rows from.0).1 there)) ((same from.1).0 from.3) from.4)
        | inr none ↦ absurd none
      ]),
      (λ i.
          let from = in_join p w rows x i in
          let there : IsIn from.0 (rows_in es) = (found_rows from.0).0 ((holds from.0).1 from.2) in
          (c.in_ok-come.ensures x).1 (inl (in_join_back p c.args.index.now seen x from.0 from.1 (subst (λ (l : List Row). IsIn from.0 l) (sym (seen_is ∙ c.in_ok-rows.ensures.rows)) there) ((same from.1).1 from.3) from.4))),
    )
