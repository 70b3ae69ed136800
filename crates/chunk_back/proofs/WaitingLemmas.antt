-- Sets of numbers as lists in order.
use Rattle.std.proofs.Common.{◌≡◌, refl, ap, subst, ℕ, ◌<◌, nat_lt, inl, inr, arith, Option, Some, None, Bool, true, false, ◌==◌, cond, List, [], ◌∷◌}
use Rattle.std.specs.BTreeSet.{insert_key}
use Rattle.std.specs.List.{All}
use Rattle.std.specs.Option.{IfSome}
use Rattle.std.proofs.lemmas.List.Elements.{All-head, All-tail}
use Rattle.std.specs.Ordering.{nat_cmp, match_ordering}
use Rattle.std.specs.declared.cmp.Ordering.TheVariants.{Less, Equal, Greater}
use Rattle.defs_soar.specs.Explanation.{with_number}
use Rattle.defs_soar.specs.Laws.{IsIn}
use Rattle.chunk_back.proofs.Lists.{same_number}

-- a set takes a number in at its place, where it is new
pub inserted : (n : ℕ) (ms : List ℕ) → insert_key nat_cmp ms n ≡ with_number n ms
inserted n [] = refl
inserted n (m ∷ ms) = go (n == m) refl (nat_lt n m) refl (inserted n ms)
  where
    go : (a : Bool) → (n == m) ≡ a → (b : Bool) → nat_lt n m ≡ b → insert_key nat_cmp ms n ≡ with_number n ms
        → match_ordering (cond b Less (cond a Equal Greater)) (n ∷ m ∷ ms) (m ∷ ms) (m ∷ insert_key nat_cmp ms n) ≡ cond a (m ∷ ms) (cond b (n ∷ m ∷ ms) (m ∷ with_number n ms))
    go true p true q later = let e : n ≡ m = same_number n m p in let less : n < m = grind arith in absurd (omega arith)
    go true p false q later = refl
    go false p true q later = refl
    go false p false q later = ap (λ l. m ∷ l) later

cmp_less : (m n : ℕ) → nat_cmp m n ≡ Less → m < n
cmp_less m n e = go (nat_lt m n) refl (m == n) e
  where
    go : (a : Bool) → nat_lt m n ≡ a → (b : Bool) → cond a Less (cond b Equal Greater) ≡ Less → m < n
    go true p b h = grind arith
    go false p true h = absurd (cc)
    go false p false h = absurd (cc)

each_below : (n : ℕ) (ms : List ℕ) → All (λ m. nat_cmp m n ≡ Less) ms → (m : ℕ) → IsIn m ms → m < n
each_below n [] h m i = absurd i
each_below n (k ∷ ms) h m (inl e) = subst (λ x. x < n) e (cmp_less k n (All-head (λ m. nat_cmp m n ≡ Less) k ms h))
each_below n (k ∷ ms) h m (inr i) = each_below n ms (All-tail (λ m. nat_cmp m n ≡ Less) k ms h) m i

-- the numbers that are left are less than the one that was taken
pub taken_is_greatest : (taken : Option ℕ) (left : List ℕ) → IfSome taken (λ n. All (λ m. nat_cmp m n ≡ Less) left) → IfSome taken (λ n. (m : ℕ) → IsIn m left → m < n)
taken_is_greatest None left h = h
taken_is_greatest (Some n) left h = each_below n left h
