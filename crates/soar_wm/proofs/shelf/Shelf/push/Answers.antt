use Rattle.std.proofs.Common.{◌≡◌, ◌∙◌, ◌++◌, ◌∷◌, [], Some, sym, ap, subst}
use Rattle.slab.specs.Slab.{get}
use Rattle.soar_wm.specs.Shelf.{IsShelf, listed}
use Rattle.soar_wm.specs.WorkingMemory.{IsGiven, tag_of, triple_of}
use Rattle.soar_wm.proofs.IndexLemmas.{puts_back}
use Rattle.soar_wm.proofs.ShelfLemmas.{shelf_push, shelf_back, no_place}
use Rattle.soar_wm.proofs.shelf.Shelf.push.Goals as goal

pub invariant_of-self : goal.invariant_of-self
invariant_of-self c = subst (λ cells. IsShelf cells c.self.inside.tags.entries c.self.inside.index.triples.entries c.self.inside.index.ids.entries) (sym (ap get c.reserve.ensures.rest_kept)) c.self.invariant

pub add-requires-clause-triple : goal.add-requires-clause-triple
add-requires-clause-triple c = c.self.invariant.by_triple (triple_of c.args.element) ∙ ap (tag_of (triple_of c.args.element)) c.self.view_is ∙ c.requires.new

pub add-requires-clause-id : goal.add-requires-clause-id
add-requires-clause-id c = no_place _ _ _ _ c.args.last c.args.element c.self.invariant (subst (IsGiven c.args.last) (sym c.self.view_is) c.requires.given) c.requires.later

pub invariant_of-self-in_err-add : goal.invariant_of-self-in_err-add
invariant_of-self-in_err-add c =
    subst (λ cells. IsShelf cells c.self.inside.tags.entries c.add.new.self.triples.entries c.add.new.self.ids.entries) (sym (ap get c.reserve.ensures.rest_kept))
    (shelf_back _ _ _ _ _ _ c.args.last c.args.element c.self.invariant (subst (IsGiven c.args.last) (sym c.self.view_is) c.requires.given) c.requires.later
    (ap (tag_of (triple_of c.args.element)) c.self.view_is ∙ c.requires.new) c.in_err-add.ensures.err)

pushed : (c : goal.After-insert_reserved) → IsShelf (get c.insert_reserved.new.self) c.insert.new.self.entries c.add.new.self.triples.entries c.add.new.self.ids.entries
    × (listed (get c.insert_reserved.new.self) c.insert.new.self.entries ≡ listed (get c.self.inside.cells) c.self.inside.tags.entries ++ c.args.element ∷ [])
pushed c =
    let same = ap get c.reserve.ensures.rest_kept in
    let key : c.insert_reserved.result ≡ c.vacant_key-key.result = c.insert_reserved.ensures.key ∙ sym c.vacant_key-key.ensures.value in
    shelf_push _ _ _ _ _ _ _ _ c.args.last c.vacant_key-key.result c.args.element c.self.invariant (subst (IsGiven c.args.last) (sym c.self.view_is) c.requires.given) c.requires.later
    (ap (tag_of (triple_of c.args.element)) c.self.view_is ∙ c.requires.new)
    (sym (ap (λ f. f c.vacant_key-key.result) same) ∙ c.vacant_key-key.ensures.vacant)
    (ap (get c.insert_reserved.new.self) (sym key) ∙ c.insert_reserved.ensures.updates.changed ∙ ap Some c.new.ensures)
    (λ other apart. c.insert_reserved.ensures.updates.others other (λ e. apart (e ∙ key)) ∙ ap (λ f. f other) same)
    c.in-Ok.ensures.entries c.in_ok-add.ensures.ok

pub invariant_of-self-in-Ok : goal.invariant_of-self-in-Ok
invariant_of-self-in-Ok c = (pushed c).0

pub invariant_of-self-in-Err : goal.invariant_of-self-in-Err
invariant_of-self-in-Err c =
    subst (λ cells. IsShelf cells c.insert.new.self.entries c.remove.new.self.triples.entries c.remove.new.self.ids.entries) (sym (ap get c.reserve.ensures.rest_kept))
    (subst (λ tags. IsShelf (get c.self.inside.cells) tags c.remove.new.self.triples.entries c.remove.new.self.ids.entries) (sym c.in-Err.ensures.err)
    (shelf_back _ _ _ _ _ _ c.args.last c.args.element c.self.invariant (subst (IsGiven c.args.last) (sym c.self.view_is) c.requires.given) c.requires.later
    (ap (tag_of (triple_of c.args.element)) c.self.view_is ∙ c.requires.new) (puts_back _ _ _ _ _ _ _ _ c.in_ok-add.ensures.ok c.remove.ensures)))

pub returns-in-Ok-clause-ok : goal.returns-in-Ok-clause-ok
returns-in-Ok-clause-ok c = (pushed c).1 ∙ ap (λ es. es ++ c.args.element ∷ []) c.self.view_is
