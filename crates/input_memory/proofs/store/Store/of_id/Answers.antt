use Rattle.std.proofs.Common.{◌∙◌, Result, Ok, Err, IfOk}
use Rattle.input_memory.proofs.PartLemmas.{gathered}
use Rattle.input_memory.proofs.store.Store.of_id.Goals as goal

pub returns : goal.returns
returns c = weaker (λ all is. is ∙ gathered _ _ _ c.args.id _ c.requires c.gather.ensures.told c.copies.ensures.ordered c.in_ok-found.ensures.found) c.copies.result c.copies.ensures.copies
  where
    weaker : {T E : Type 0} {P R : T → Type 0} → ((x : T) → P x → R x) → (r : Result T E) → IfOk r P → IfOk r R
    weaker f (Ok x) p = f x p
    weaker f (Err e) p = tt
