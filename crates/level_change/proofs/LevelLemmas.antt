-- Levels by identifiers, as they stand at their places.
use Rattle.std.proofs.Common.{◌≡◌, ℕ, ◌&&◌, Bool, true, false, cond, List, [], ◌∷◌, Option, Some, None, unwrap_or, refl, sym, ap, ap₂, ◌∙◌}
use Rattle.std.specs.Cmp.{IsEquivalence}
use Rattle.std.specs.List.{IsDistinct}
use Rattle.std.specs.Map.{lookup, keys_of}
use Rattle.std.specs.Ordering.{is_eq}
use Rattle.std.proofs.lemmas.Cmp.{and_equiv, on_equiv, nat_eq_equiv}
use Rattle.std.proofs.lemmas.Map.{lookup-none}
use Rattle.std.proofs.lemmas.Map.Entries.{none_past_head}
use Rattle.level_change.specs.Links.{Id, id_cmp, id_eq, Place, place_cmp, Levels, LateLevels, placed, value_in}
use Rattle.level_change.proofs.LinkLemmas.{then_same, id_same, value_is}

id_equiv : IsEquivalence id_eq
id_equiv = and_equiv (on_equiv (λ q. q.0) nat_eq_equiv) (on_equiv (λ q. q.1) nat_eq_equiv)

place_same : (a b x y : Id) → is_eq (place_cmp (a, b) (x, y)) ≡ (id_eq a x && id_eq b y)
place_same a b x y = then_same (id_cmp a x) (id_cmp b y) ∙ ap₂ (λ c d. c && d) (id_same a x) (id_same b y)

-- what stands at the place of a level is what stands at its identifier, and nothing stands at other places
lookup_placed : {X : Type 0} (es : List (Id × X)) (x y : Id) → lookup (λ k. is_eq (place_cmp (x, y) k)) (placed es) ≡ cond (id_eq y (0, 0)) (lookup (id_eq x) es) None
lookup_placed {X} [] x y = none (id_eq y (0, 0))
  where
    nothing : Option X
    nothing = None

    none : (b : Bool) → nothing ≡ cond b nothing nothing
    none true = refl
    none false = refl
lookup_placed {X} (e ∷ es) x y =
    ap (λ c. cond c (Some e.1) (lookup (λ k. is_eq (place_cmp (x, y) k)) (placed es))) (place_same x y e.0 (0, 0))
    ∙ by (id_eq x e.0) (id_eq y (0, 0)) (lookup_placed es x y)
  where
    by : (c d : Bool) → lookup (λ k. is_eq (place_cmp (x, y) k)) (placed es) ≡ cond d (lookup (id_eq x) es) None
        → cond (c && d) (Some e.1) (lookup (λ k. is_eq (place_cmp (x, y) k)) (placed es)) ≡ cond d (cond c (Some e.1) (lookup (id_eq x) es)) None
    by true true h = refl
    by true false h = h
    by false true h = h
    by false false h = h

-- one level more or less
pub put_placed : {X : Type 0} (old new : List (Id × X)) (id : Id) (w : Option X) → ((q : Id) → lookup (id_eq q) new ≡ cond (id_eq id q) w (lookup (id_eq q) old))
    → (q : Place) → lookup (λ k. is_eq (place_cmp q k)) (placed new) ≡ cond (is_eq (place_cmp (id, (0, 0)) q)) w (lookup (λ k. is_eq (place_cmp q k)) (placed old))
put_placed {X} old new id w up q =
    lookup_placed new q.0 q.1
    ∙ ap (λ o. cond (id_eq q.1 (0, 0)) o None) (up q.0)
    ∙ by (id_eq id q.0) (id_eq q.1 (0, 0)) (lookup (id_eq q.0) old)
    ∙ sym (ap₂ (λ c o. cond c w o) here (lookup_placed old q.0 q.1))
  where
    here : is_eq (place_cmp (id, (0, 0)) q) ≡ (id_eq id q.0 && id_eq q.1 (0, 0))
    here = place_same id (0, 0) q.0 q.1 ∙ ap (λ c. id_eq id q.0 && c) (id_equiv.symm (0, 0) q.1)

    by : (c d : Bool) (o : Option X) → cond d (cond c w o) None ≡ cond (c && d) w (cond d o None)
    by true true o = refl
    by true false o = refl
    by false true o = refl
    by false false o = refl

-- what stands at an identifier, as the maps tell it
pub level_is : (base : Levels) (late : LateLevels) (id : Id) → unwrap_or (lookup (id_eq id) late) (lookup (id_eq id) base) ≡ value_in (placed base) (placed late) (id, (0, 0))
level_is base late id = sym (ap₂ unwrap_or (lookup_placed late id (0, 0)) (lookup_placed base id (0, 0))) ∙ value_is (placed base) (placed late) (id, (0, 0))

-- what a level stands beside is not found once more
pub none_past : (e : Id × Option ℕ) (late : LateLevels) → IsDistinct id_eq (keys_of (e ∷ late)) → (q : Place) → is_eq (place_cmp q (e.0, (0, 0))) ≡ true → lookup (λ k. is_eq (place_cmp q k)) (placed late) ≡ None
none_past e late apart q h =
    lookup_placed late q.0 q.1
    ∙ ap (λ o. cond (id_eq q.1 (0, 0)) o None) (lookup-none (id_eq q.0) late (none_past_head id_equiv q.0 e late apart (left (id_eq q.0 e.0) (id_eq q.1 (0, 0)) (sym (place_same q.0 q.1 e.0 (0, 0)) ∙ h))))
    ∙ none (id_eq q.1 (0, 0))
  where
    left : (a b : Bool) → (a && b) ≡ true → a ≡ true
    left true b k = refl
    left false b k = cc

    nothing : Option (Option ℕ)
    nothing = None

    none : (b : Bool) → cond b nothing nothing ≡ nothing
    none true = refl
    none false = refl
