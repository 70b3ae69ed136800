use Rattle.std.proofs.Common.{◌∙◌, Result, Ok, Err, IfOk, OnOk}
use Rattle.soar_prefs.proofs.RangeLemmas.{slot_rows}
use Rattle.soar_prefs.proofs.store.Store.of_slot.Goals as goal

pub returns : goal.returns
returns c = both (λ rows told ordered. told ∙ slot_rows _ _ _ c.args.id c.args.attr c.requires ordered) c.rows_of.result c.rows_of.ensures.rows c.rows_of.ensures.ordered
  where
    both : {T E : Type 0} {P R : T → Type 0} {Q : Type 0} → ((x : T) → P x → Q → R x) → (r : Result T E) → IfOk r P → OnOk r Q → IfOk r R
    both f (Ok x) p q = f x p q
    both f (Err e) p q = tt
