use Rattle.std.proofs.Common.{◌∙◌, Result, Ok, Err, IfOk, OnOk, sym, ap, subst}
use Rattle.slab.specs.Slab.{get}
use Rattle.soar_wm.specs.WorkingMemory.{elements_of, IsRising, IsGiven}
use Rattle.soar_wm.proofs.RangeLemmas.{id_found}
use Rattle.soar_wm.proofs.shelf.Shelf.of_id.Goals as goal

pub returns : goal.returns
returns c =
    both
    (λ es told ordered.
    told ∙ id_found (get c.self.inside.cells) c.self.inside.tags.entries c.self.inside.index.triples.entries c.self.inside.index.ids.entries c.args.id c.args.last c.self.invariant
    (subst IsRising (sym c.self.view_is) c.requires.rising) (subst (IsGiven c.args.last) (sym c.self.view_is) c.requires.given) c.ranges.last.fits ordered
    ∙ ap (elements_of c.args.id) c.self.view_is)
    c.of_id.result c.of_id.ensures.elements c.of_id.ensures.ordered
  where
    both : {T E : Type 0} {P R : T → Type 0} {Q : Type 0} → ((x : T) → P x → Q → R x) → (r : Result T E) → IfOk r P → OnOk r Q → IfOk r R
    both f (Ok x) p q = f x p q
    both f (Err e) p q = tt
