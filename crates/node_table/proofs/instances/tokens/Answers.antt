use Rattle.std.proofs.Common.{◌∙◌, ap, map, Result, Ok, Err, IfOk, OnOk}
use Rattle.defs_match.specs.Conflict.{instance_of}
use Rattle.defs_match.specs.Rows.{rows}
use Rattle.node_memory.specs.Memories.{rows_in}
use Rattle.node_memory.proofs.EntryLemmas.{finds_rows}
use Rattle.node_table.proofs.OrderLemmas.{RowLess, never_both, same_in_order, entries_order, rows_order}
use Rattle.node_table.proofs.instances.tokens.Goals as goal

pub returns : goal.returns
returns c =
    let es = c.args.memory.now.rows.entries in
    both (λ v told ordered cs w up holds. told ∙ ap (map (instance_of 0)) (same_in_order RowLess never_both (rows_in es) (rows cs w) (entries_order es ordered) (rows_order cs w up)
    (λ x. ((λ i. (holds x).0 ((finds_rows es ordered x).1 i)), λ i. (finds_rows es ordered x).0 ((holds x).1 i))))) c.all_tokens.result c.all_tokens.ensures.tokens c.all_tokens.ensures.ordered
  where
    both : {T E : Type 0} {P R : T → Type 0} {Q : Type 0} → ((x : T) → P x → Q → R x) → (r : Result T E) → IfOk r P → OnOk r Q → IfOk r R
    both f (Ok x) p q = f x p q
    both f (Err e) p q = tt
