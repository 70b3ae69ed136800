-- How often a number stands in a list, and what a list holds.
use Rattle.std.proofs.Common.{◌≡◌, ◌≢◌, refl, sym, ap, ◌⊎◌, inl, inr, ℕ, zero, suc, ◌+◌, ◌<◌, ◌==◌, Bool, true, false, cond, List, [], ◌∷◌, ◌++◌, length, get_or, arith, eq-eqb, eqb-true}
use Rattle.std.proofs.lemmas.Bool.{eqb-false}
use Rattle.defs_match.specs.Laws.{IsIn}
use Rattle.rete_net.specs.Requests.{times}

-- ---- what a list holds

pub in_front : {A : Type 0} (x : A) (xs ys : List A) → IsIn x xs → IsIn x (xs ++ ys)
in_front x [] ys h = absurd h
in_front x (y ∷ xs) ys (inl e) = inl e
in_front x (y ∷ xs) ys (inr h) = inr (in_front x xs ys h)

pub in_back : {A : Type 0} (x : A) (xs ys : List A) → IsIn x ys → IsIn x (xs ++ ys)
in_back x [] ys h = h
in_back x (y ∷ xs) ys h = inr (in_back x xs ys h)

pub in_either : {A : Type 0} (x : A) (xs ys : List A) → IsIn x (xs ++ ys) → IsIn x xs ⊎ IsIn x ys
in_either x [] ys h = inr h
in_either x (y ∷ xs) ys (inl e) = inl (inl e)
in_either x (y ∷ xs) ys (inr h) = elim (in_either x xs ys h) [ inl a ↦ inl (inr a) | inr b ↦ inr b ]

pub in_at : {A : Type 0} (xs : List A) (i : ℕ) (d : A) → i < length xs → IsIn (get_or xs i d) xs
in_at [] i d h = absurd (omega (arith, h))
in_at (x ∷ xs) zero d h = inl refl
in_at (x ∷ xs) (suc i) d h = inr (in_at xs i d (omega (arith, h)))

-- ---- how often

pub times_both : (k : ℕ) (xs ys : List ℕ) → times k (xs ++ ys) ≡ times k xs + times k ys
times_both k [] ys = omega arith
times_both k (x ∷ xs) ys = by (x == k) (times_both k xs ys)
  where
    by : (b : Bool) → times k (xs ++ ys) ≡ times k xs + times k ys → cond b (suc (times k (xs ++ ys))) (times k (xs ++ ys)) ≡ cond b (suc (times k xs)) (times k xs) + times k ys
    by true e = omega (arith, e)
    by false e = e

pub times_first : (k x : ℕ) (xs : List ℕ) → times k (x ∷ xs) ≡ times k (x ∷ []) + times k xs
times_first k x xs = times_both k (x ∷ []) xs

pub times_own : (k : ℕ) → times k (k ∷ []) ≡ 1
times_own k = ap (λ b. cond b 1 0) (eq-eqb k k refl)

pub times_other : (k x : ℕ) → k ≢ x → times k (x ∷ []) ≡ 0
times_other k x ne = by (x == k) refl
  where
    by : (b : Bool) → (x == k) ≡ b → cond b (suc (times k [])) (times k []) ≡ 0
    by true e = absurd (ne (sym (eqb-true x k e)))
    by false e = refl

pub in_times : (k : ℕ) (xs : List ℕ) → IsIn k xs → 0 < times k xs
in_times k [] h = absurd h
in_times k (x ∷ xs) h = by (x == k) refl h (in_times k xs)
  where
    by : (b : Bool) → (x == k) ≡ b → (x ≡ k) ⊎ IsIn k xs → (IsIn k xs → 0 < times k xs) → 0 < cond b (suc (times k xs)) (times k xs)
    by true e i later = omega arith
    by false e (inl q) later = absurd (eqb-false x k e q)
    by false e (inr i) later = later i

pub times_in : (k : ℕ) (xs : List ℕ) → 0 < times k xs → IsIn k xs
times_in k [] h = absurd (omega (arith, h))
times_in k (x ∷ xs) h = by (x == k) refl h (times_in k xs)
  where
    by : (b : Bool) → (x == k) ≡ b → 0 < cond b (suc (times k xs)) (times k xs) → (0 < times k xs → IsIn k xs) → (x ≡ k) ⊎ IsIn k xs
    by true e i later = inl (eqb-true x k e)
    by false e i later = inr (later i)

-- two numbers are one, or they differ
pub same_or_not : (k n : ℕ) → (k ≡ n) ⊎ (k ≢ n)
same_or_not k n = by (k == n) refl
  where
    by : (b : Bool) → (k == n) ≡ b → (k ≡ n) ⊎ (k ≢ n)
    by true e = inl (eqb-true k n e)
    by false e = inr (eqb-false k n e)
