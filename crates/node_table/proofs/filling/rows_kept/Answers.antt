use Rattle.std.proofs.Common.{◌↔◌, ◌∙◌, sym, subst, List}
use Rattle.defs_match.specs.Laws.{IsIn}
use Rattle.defs_match.specs.Rows.{Row}
use Rattle.node_memory.specs.Memories.{rows_in}
use Rattle.node_memory.proofs.EntryLemmas.{finds_rows}
use Rattle.negation_parts.specs.Negations.{kept}
use Rattle.negation_parts.proofs.NegationLemmas.{kept_found}
use Rattle.node_table.proofs.filling.rows_kept.Goals as goal

pub returns : goal.returns
returns c rows inside holds held =
    let es = c.args.parent.now.rows.entries in
    let is = c.args.inner.now.rows.entries in
    let all = finds_rows es c.in_ok-rows.ensures.ordered in
    let within = finds_rows is c.len-count.ensures.ordered in
    let seen : (x : Row) → IsIn x c.as_slice.result.now ↔ IsIn x rows = subst (λ (l : List Row). (x : Row) → IsIn x l ↔ IsIn x rows) (sym (c.as_slice.ensures.value ∙ c.in_ok-rows.ensures.rows))
    (λ x. ((λ i. (holds x).0 ((all x).1 i)), λ i. (all x).0 ((holds x).1 i))) in
    subst (λ (l : List Row). (x : Row) → IsIn x l ↔ IsIn x (kept inside rows)) (sym c.in_ok-kept.ensures)
    (kept_found (rows_in is) c.as_slice.result.now inside rows seen (λ x. ((λ i. (held x).0 ((within x).1 i)), λ i. (within x).0 ((held x).1 i))))
