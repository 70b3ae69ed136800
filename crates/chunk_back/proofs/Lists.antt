-- What lists hold.
use Rattle.std.proofs.Common.{◌≡◌, refl, sym, ◌∙◌, ap, subst, ℕ, Bool, true, false, ◌||◌, ◌==◌, ◌⊎◌, inl, inr, List, [], ◌∷◌, ◌++◌, map, flat_map, filter, cond}
use Rattle.std.proofs.Math.Dec.{eqb→eq}
use Rattle.std.specs.Bool.{passes}
use Rattle.std.specs.List.{list_any}
use Rattle.defs_soar.specs.Laws.{IsIn}

pub in_append : {A : Type 0} (x : A) (xs ys : List A) → IsIn x (xs ++ ys) → IsIn x xs ⊎ IsIn x ys
in_append x [] ys h = inr h
in_append x (y ∷ xs) ys (inl e) = inl (inl e)
in_append x (y ∷ xs) ys (inr h) = elim (in_append x xs ys h) [ inl a ↦ inl (inr a) | inr b ↦ inr b ]

pub in_left : {A : Type 0} (x : A) (xs ys : List A) → IsIn x xs → IsIn x (xs ++ ys)
in_left x [] ys h = absurd h
in_left x (y ∷ xs) ys (inl e) = inl e
in_left x (y ∷ xs) ys (inr h) = inr (in_left x xs ys h)

pub in_right : {A : Type 0} (x : A) (xs ys : List A) → IsIn x ys → IsIn x (xs ++ ys)
in_right x [] ys h = h
in_right x (y ∷ xs) ys h = inr (in_right x xs ys h)

pub in_mapped : {A B : Type 0} (f : A → B) (x : A) (xs : List A) → IsIn x xs → IsIn (f x) (map f xs)
in_mapped f x [] h = absurd h
in_mapped f x (y ∷ xs) (inl e) = inl (ap f e)
in_mapped f x (y ∷ xs) (inr h) = inr (in_mapped f x xs h)

pub in_flat_map : {A B : Type 0} (f : A → List B) (y : B) (xs : List A) → IsIn y (flat_map f xs) → (x : A) × IsIn x xs × IsIn y (f x)
in_flat_map f y [] h = absurd h
in_flat_map f y (x ∷ xs) h =
    elim (in_append y (f x) (flat_map f xs) h) [
      | inl a ↦ (x, inl refl, a)
      | inr b ↦ let found = in_flat_map f y xs b in (found.0, inr found.1, found.2)
    ]

pub in_flat_mapped : {A B : Type 0} (f : A → List B) (x : A) (y : B) (xs : List A) → IsIn x xs → IsIn y (f x) → IsIn y (flat_map f xs)
in_flat_mapped f x y [] h k = absurd h
in_flat_mapped f x y (z ∷ xs) (inl e) k = in_left y (f z) (flat_map f xs) (subst (λ w. IsIn y (f w)) (sym e) k)
in_flat_mapped f x y (z ∷ xs) (inr h) k = in_right y (f z) (flat_map f xs) (in_flat_mapped f x y xs h k)

pub filter_within : {A : Type 0} (p : A → Bool) (xs : List A) (x : A) → IsIn x (filter p xs) → IsIn x xs × (p x ≡ true)
filter_within p [] x h = absurd h
filter_within p (y ∷ ys) x h = go (filter_within p ys x) (p y) refl h
  where
    go : (IsIn x (filter p ys) → IsIn x ys × (p x ≡ true)) → (b : Bool) → p y ≡ b → IsIn x (cond b (y ∷ filter p ys) (filter p ys)) → ((y ≡ x) ⊎ IsIn x ys) × (p x ≡ true)
    go later true q (inl e) = (inl e, ap p (sym e) ∙ q)
    go later true q (inr i) = let k = later i in (inr k.0, k.1)
    go later false q i = let k = later i in (inr k.0, k.1)

pub filter_keeps : {A : Type 0} (p : A → Bool) (xs : List A) (x : A) → IsIn x xs → p x ≡ true → IsIn x (filter p xs)
filter_keeps p [] x h k = absurd h
filter_keeps p (y ∷ ys) x h k = go (filter_keeps p ys x) (p y) refl h
  where
    go : (IsIn x ys → p x ≡ true → IsIn x (filter p ys)) → (b : Bool) → p y ≡ b → (y ≡ x) ⊎ IsIn x ys → IsIn x (cond b (y ∷ filter p ys) (filter p ys))
    go later true q (inl e) = inl e
    go later true q (inr i) = inr (later i k)
    go later false q (inl e) = let z = ap p e in absurd (cc)
    go later false q (inr i) = later i k

pub any_in : {A : Type 0} (p : A → Bool) (x : A) (xs : List A) → IsIn x xs → p x ≡ true → list_any p xs ≡ true
any_in p x [] h k = absurd h
any_in p x (y ∷ ys) (inl e) k = ap (λ b. b || list_any p ys) (ap p e ∙ k)
any_in p x (y ∷ ys) (inr i) k = go (p y) (any_in p x ys i k)
  where
    go : (b : Bool) → list_any p ys ≡ true → (b || list_any p ys) ≡ true
    go true later = refl
    go false later = later

pub any_some : {A : Type 0} (p : A → Bool) (xs : List A) → list_any p xs ≡ true → (x : A) × IsIn x xs × (p x ≡ true)
any_some p [] h = absurd (cc)
any_some p (y ∷ ys) h = go (any_some p ys) (p y) refl h
  where
    go : (list_any p ys ≡ true → (x : _) × IsIn x ys × (p x ≡ true)) → (b : Bool) → p y ≡ b → (b || list_any p ys) ≡ true → (x : _) × IsIn x (y ∷ ys) × (p x ≡ true)
    go later true q k = (y, inl refl, q)
    go later false q k = let found = later k in (found.0, inr found.1, found.2)

pub same_number : (a b : ℕ) → (a == b) ≡ true → a ≡ b
same_number a b e = eqb→eq a b (passes (a == b) e)
