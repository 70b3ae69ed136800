-- Numbers in order, each once.
use Rattle.std.proofs.Common.{◌≡◌, refl, sym, ◌∙◌, ap, subst, ℕ, suc, ◌≤◌, ◌<◌, nat_lt, Bool, true, false, ◌==◌, cond, inl, inr, ◌⊎◌, arith, List, [], ◌∷◌, length}
use Rattle.defs_soar.specs.Explanation.{with_number, with_numbers}
use Rattle.defs_soar.specs.Laws.{IsIn}
use Rattle.chunk_back.specs.Walk.{AllAbove, Rising}
use Rattle.chunk_back.proofs.Lists.{same_number}

pub above_in : (n m : ℕ) (ns : List ℕ) → AllAbove n ns → IsIn m ns → n < m
above_in n m [] h i = absurd i
above_in n m (k ∷ ns) h (inl e) = subst (λ x. n < x) e h.0
above_in n m (k ∷ ns) h (inr i) = above_in n m ns h.1 i

pub above_less : (n m : ℕ) (ns : List ℕ) → n < m → AllAbove m ns → AllAbove n ns
above_less n m [] l h = tt
above_less n m (k ∷ ns) l h = let less : m < k = h.0 in (omega arith, above_less n m ns l h.1)

above_with : (n m : ℕ) (ns : List ℕ) → n < m → AllAbove n ns → AllAbove n (with_number m ns)
above_with n m [] l h = (l, tt)
above_with n m (k ∷ ns) l h = go (m == k) (nat_lt m k) (above_with n m ns l h.1)
  where
    go : (a b : Bool) → AllAbove n (with_number m ns) → AllAbove n (cond a (k ∷ ns) (cond b (m ∷ k ∷ ns) (k ∷ with_number m ns)))
    go true b later = h
    go false true later = (l, h)
    go false false later = (h.0, later)

pub rising_with : (m : ℕ) (ns : List ℕ) → Rising ns → Rising (with_number m ns)
rising_with m [] h = (tt, tt)
rising_with m (k ∷ ns) h = go (m == k) refl (nat_lt m k) refl (rising_with m ns h.1)
  where
    go : (a : Bool) → (m == k) ≡ a → (b : Bool) → nat_lt m k ≡ b → Rising (with_number m ns) → Rising (cond a (k ∷ ns) (cond b (m ∷ k ∷ ns) (k ∷ with_number m ns)))
    go true p b q later = h
    go false p true q later = let less : m < k = grind arith in ((less, above_less m k ns less h.0), h)
    go false p false q later = let more : k < m = grind arith in (above_with k m ns more h.0, later)

pub rising_all : (ns ms : List ℕ) → Rising ms → Rising (with_numbers ns ms)
rising_all [] ms h = h
rising_all (n ∷ ns) ms h = rising_with n (with_numbers ns ms) (rising_all ns ms h)

pub with_this : (m : ℕ) (ns : List ℕ) → IsIn m (with_number m ns)
with_this m [] = inl refl
with_this m (k ∷ ns) = go (m == k) refl (nat_lt m k) (with_this m ns)
  where
    go : (a : Bool) → (m == k) ≡ a → (b : Bool) → IsIn m (with_number m ns) → IsIn m (cond a (k ∷ ns) (cond b (m ∷ k ∷ ns) (k ∷ with_number m ns)))
    go true p b later = inl (sym (same_number m k p))
    go false p true later = inl refl
    go false p false later = inr later

pub with_others : (m n : ℕ) (ns : List ℕ) → IsIn n ns → IsIn n (with_number m ns)
with_others m n [] i = absurd i
with_others m n (k ∷ ns) i = go (m == k) (nat_lt m k) i (with_others m n ns)
  where
    go : (a b : Bool) → (k ≡ n) ⊎ IsIn n ns → (IsIn n ns → IsIn n (with_number m ns)) → IsIn n (cond a (k ∷ ns) (cond b (m ∷ k ∷ ns) (k ∷ with_number m ns)))
    go true b j later = j
    go false true j later = inr j
    go false false (inl e) later = inl e
    go false false (inr j) later = inr (later j)

from_with : (m n : ℕ) (ns : List ℕ) → IsIn n (with_number m ns) → (m ≡ n) ⊎ IsIn n ns
from_with m n [] (inl e) = inl e
from_with m n [] (inr i) = absurd i
from_with m n (k ∷ ns) i = go (m == k) (nat_lt m k) i (from_with m n ns)
  where
    go : (a b : Bool) → IsIn n (cond a (k ∷ ns) (cond b (m ∷ k ∷ ns) (k ∷ with_number m ns))) → (IsIn n (with_number m ns) → (m ≡ n) ⊎ IsIn n ns) → (m ≡ n) ⊎ IsIn n (k ∷ ns)
    go true b j later = inr j
    go false true (inl e) later = inl e
    go false true (inr j) later = inr j
    go false false (inl e) later = inr (inl e)
    go false false (inr j) later = elim (later j) [ inl e ↦ inl e | inr l ↦ inr (inr l) ]

pub with_left : (ns ms : List ℕ) (n : ℕ) → IsIn n ns → IsIn n (with_numbers ns ms)
with_left [] ms n i = absurd i
with_left (k ∷ ns) ms n (inl e) = subst (λ x. IsIn x (with_number k (with_numbers ns ms))) e (with_this k (with_numbers ns ms))
with_left (k ∷ ns) ms n (inr i) = with_others k n (with_numbers ns ms) (with_left ns ms n i)

pub with_right : (ns ms : List ℕ) (n : ℕ) → IsIn n ms → IsIn n (with_numbers ns ms)
with_right [] ms n i = i
with_right (k ∷ ns) ms n i = with_others k n (with_numbers ns ms) (with_right ns ms n i)

pub from_all : (ns ms : List ℕ) (n : ℕ) → IsIn n (with_numbers ns ms) → IsIn n ns ⊎ IsIn n ms
from_all [] ms n i = inr i
from_all (k ∷ ns) ms n i =
    elim (from_with k n (with_numbers ns ms) i) [
      | inl e ↦ inl (inl e)
      | inr j ↦ elim (from_all ns ms n j) [ inl l ↦ inl (inr l) | inr l ↦ inr l ]
    ]

-- ---- lengths

pub longer_with : (m : ℕ) (ns : List ℕ) → length ns ≤ length (with_number m ns)
longer_with m [] = omega arith
longer_with m (k ∷ ns) = go (m == k) (nat_lt m k) (longer_with m ns)
  where
    go : (a b : Bool) → length ns ≤ length (with_number m ns) → suc (length ns) ≤ length (cond a (k ∷ ns) (cond b (m ∷ k ∷ ns) (k ∷ with_number m ns)))
    go true b l = omega arith
    go false true l = omega arith
    go false false l = omega arith

-- where a number makes it no longer, it was there
pub same_with : (m : ℕ) (ns : List ℕ) → length (with_number m ns) ≤ length ns → with_number m ns ≡ ns
same_with m [] l = absurd (omega arith)
same_with m (k ∷ ns) l = go (m == k) (nat_lt m k) l (same_with m ns)
  where
    go : (a b : Bool) → length (cond a (k ∷ ns) (cond b (m ∷ k ∷ ns) (k ∷ with_number m ns))) ≤ suc (length ns) → (length (with_number m ns) ≤ length ns → with_number m ns ≡ ns)
        → cond a (k ∷ ns) (cond b (m ∷ k ∷ ns) (k ∷ with_number m ns)) ≡ k ∷ ns
    go true b l later = refl
    go false true l later = absurd (omega arith)
    go false false l later = ap (λ x. k ∷ x) (later (omega arith))

pub longer_all : (ns ms : List ℕ) → length ms ≤ length (with_numbers ns ms)
longer_all [] ms = omega arith
longer_all (n ∷ ns) ms = let a = longer_all ns ms in let b = longer_with n (with_numbers ns ms) in omega arith

pub same_all : (ns ms : List ℕ) → length (with_numbers ns ms) ≤ length ms → with_numbers ns ms ≡ ms
same_all [] ms l = refl
same_all (n ∷ ns) ms l =
    let a = longer_with n (with_numbers ns ms) in
    let deep = same_all ns ms (omega arith) in
    let b = longer_all ns ms in same_with n (with_numbers ns ms) (omega arith) ∙ deep

-- as many as are among the numbers, at most
pub few_among : (ns ms : List ℕ) → Rising ns → ((n : ℕ) → IsIn n ns → IsIn n ms) → length ns ≤ length ms
few_among [] ms r h = omega arith
few_among (n ∷ ns) ms r h =
    let less = dropped n ms (h n (inl refl)) in
    let rest = few_among ns less.0 r.1 (λ m i. less.2 m (λ e. let k : n < m = above_in n m ns r.0 i in absurd (omega arith)) (h m (inr i))) in
    let count : suc (length less.0) ≡ length ms = less.1 in omega arith
  where
    dropped : (n : ℕ) (ms : List ℕ) → IsIn n ms → (rest : List ℕ) × (suc (length rest) ≡ length ms) × ((m : ℕ) → (n ≡ m → ⊥) → IsIn m ms → IsIn m rest)
    dropped n [] i = absurd i
    dropped n (k ∷ ms) (inl e) = (ms, refl, (λ m d j. elim j [ inl q ↦ absurd (d (sym e ∙ q)) | inr l ↦ l ]))
    dropped n (k ∷ ms) (inr i) =
        let deep = dropped n ms i in
        (k ∷ deep.0, ap suc deep.1, (λ m d j. elim j [ inl q ↦ inl q | inr l ↦ inr (deep.2 m d l) ]))
