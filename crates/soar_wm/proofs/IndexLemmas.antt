-- What the maps by triple and by identifier have after a change.
use Rattle.std.proofs.Common.{◌≡◌, ℕ, Bool, true, false, ◌&&◌, cond, Option, None, refl, sym, ap, ◌∙◌}
use Rattle.std.specs.Ordering.{is_eq}
use Rattle.soar_sym.specs.Equality.{triple_eq}
use Rattle.soar_sym.specs.declared.symbol.Triple.{Triple}
use Rattle.soar_wm.specs.declared.element.Element.{Element}
use Rattle.soar_wm.specs.Shelf.{Place, Triples, Ids, at_triple, at_id, place_of, id_cmp, has_place, is_id_of, mark_of, Puts}
use Rattle.soar_wm.specs.WorkingMemory.{has_triple, triple_of}
use Rattle.soar_wm.proofs.KeyLemmas.{id_same, triple_is, place_is, nat_is}

abbrev pub WritesTriple : Triples → Triples → Triple → Option ℕ → Type 0
WritesTriple old new k w = (t : Triple) → at_triple new t ≡ cond (triple_eq k t) w (at_triple old t)

abbrev pub WritesId : Ids → Ids → Place × ℕ → Option (Unit {0}) → Type 0
WritesId old new k w = (q : Place × ℕ) → at_id new q ≡ cond (is_eq (id_cmp k q)) w (at_id old q)

put_triple : (old new : Triples) (e : Element) (k : Triple) (w : Option ℕ) → k ≡ triple_of e → WritesTriple old new k w → (t : Triple) → at_triple new t ≡ cond (has_triple t e) w (at_triple old t)
put_triple old new e k w is up t = up t ∙ ap (λ x. cond (triple_eq x t) w (at_triple old t)) is

put_id : (old new : Ids) (e : Element) (p : Place) (w : Option (Unit {0})) → p ≡ place_of e.id → WritesId old new (p, e.tag) w → (q : Place × ℕ) → at_id new q ≡ cond (is_id_of e q) w (at_id old q)
put_id old new e p w is up q = up q ∙ ap (λ x. cond (is_eq (id_cmp (x, e.tag) q)) w (at_id old q)) is ∙ ap (λ b. cond b w (at_id old q)) (id_same e q)

pub puts : (e : Element) (k : Triple) (p : Place) (tag : Option ℕ) (triples new_triples : Triples) (ids new_ids : Ids) → k ≡ triple_of e → p ≡ place_of e.id → WritesTriple triples new_triples k tag → WritesId ids new_ids (p, e.tag) (mark_of tag)
    → Puts e tag triples new_triples ids new_ids
puts e k p tag triples new_triples ids new_ids is stands a b = record { by_triple = put_triple triples new_triples e k tag is a; by_id = put_id ids new_ids e p (mark_of tag) stands b }

-- where there was nothing, nothing was taken away

no_triple : (triples : Triples) (e : Element) → at_triple triples (triple_of e) ≡ None → (t : Triple) → at_triple triples t ≡ cond (has_triple t e) None (at_triple triples t)
no_triple triples e none t = by (has_triple t e) refl
  where
    by : (b : Bool) → has_triple t e ≡ b → at_triple triples t ≡ cond b None (at_triple triples t)
    by true h = sym (ap (at_triple triples) (triple_is t e h)) ∙ none
    by false h = refl

left : (a b : Bool) → (a && b) ≡ true → a ≡ true
left true b h = refl
left false b h = cc

right : (a b : Bool) → (a && b) ≡ true → b ≡ true
right true b h = h
right false b h = cc

pub id_is : (e : Element) (q : Place × ℕ) → is_id_of e q ≡ true → (place_of e.id, e.tag) ≡ q
id_is e q h =
    let place : place_of e.id ≡ q.0 = place_is (place_of e.id) q.0 (left _ _ h) in
    let tag : e.tag ≡ q.1 = nat_is e.tag q.1 (right (has_place q.0 e) _ h) in
    λ i. (place i, tag i)

no_id : (ids : Ids) (e : Element) → at_id ids (place_of e.id, e.tag) ≡ None → (q : Place × ℕ) → at_id ids q ≡ cond (is_id_of e q) None (at_id ids q)
no_id ids e none q = by (is_id_of e q) refl
  where
    by : (b : Bool) → is_id_of e q ≡ b → at_id ids q ≡ cond b None (at_id ids q)
    by true h = sym (ap (at_id ids) (id_is e q h)) ∙ none
    by false h = refl

pub not_put : (e : Element) (triples new_triples : Triples) (ids new_ids : Ids) → at_triple triples (triple_of e) ≡ None → at_id ids (place_of e.id, e.tag) ≡ None → new_triples ≡ triples → new_ids ≡ ids → Puts e None triples new_triples ids new_ids
not_put e triples new_triples ids new_ids a b same same_ids = record {
  by_triple = λ t. ap (λ m. at_triple m t) same ∙ no_triple triples e a t;
  by_id = λ q. ap (λ m. at_id m q) same_ids ∙ no_id ids e b q;
}

taken_back : {X : Type 0} (b : Bool) (w x : Option X) → cond b None (cond b w x) ≡ cond b None x
taken_back true w x = refl
taken_back false w x = refl

-- put in and taken out again
pub put_back : (e : Element) (k : Triple) (w : Option ℕ) (triples between new_triples : Triples) (ids new_ids : Ids) → k ≡ triple_of e → WritesTriple triples between k w → WritesTriple between new_triples k None
    → at_id ids (place_of e.id, e.tag) ≡ None → new_ids ≡ ids → Puts e None triples new_triples ids new_ids
put_back e k w triples between new_triples ids new_ids is up down b same_ids = record {
  by_triple = λ t.
      put_triple between new_triples e k None is down t ∙ ap (λ x. cond (has_triple t e) None x) (put_triple triples between e k w is up t)
      ∙ taken_back (has_triple t e) w (at_triple triples t);
  by_id = λ q. ap (λ m. at_id m q) same_ids ∙ no_id ids e b q;
}

pub puts_back : (e : Element) (tag : Option ℕ) (triples t1 t2 : Triples) (ids i1 i2 : Ids) → Puts e tag triples t1 ids i1 → Puts e None t1 t2 i1 i2 → Puts e None triples t2 ids i2
puts_back e tag triples t1 t2 ids i1 i2 up down = record {
  by_triple = λ t. down.by_triple t ∙ ap (λ x. cond (has_triple t e) None x) (up.by_triple t) ∙ taken_back (has_triple t e) tag (at_triple triples t);
  by_id = λ q. down.by_id q ∙ ap (λ x. cond (is_id_of e q) None x) (up.by_id q) ∙ taken_back (is_id_of e q) (mark_of tag) (at_id ids q);
}
