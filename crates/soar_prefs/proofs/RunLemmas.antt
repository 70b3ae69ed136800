-- A walk from the first place of a key, for as long as places are of it, finds all that are.
use Rattle.std.proofs.Common.{◌≡◌, ℕ, ◌-◌, ◌^◌, ◌<◌, ◌≤◌, Bool, true, false, ◌&&◌, not, cond, [], ◌∷◌, refl, sym, ap, ap₂, ◌∙◌, arith}
use Rattle.std.specs.BTreeMap.Range.{entries_between}
use Rattle.std.specs.Cmp.{IsTotalOrder}
use Rattle.std.specs.List.{AllByRecursion}
use Rattle.std.specs.List.Sorted.{IsStrictlySortedBy}
use Rattle.std.specs.Map.{keys_of}
use Rattle.std.specs.Ordering.{is_eq, is_le, is_lt, nat_cmp, ordering_then, ordering_reverse}
use Rattle.std.specs.declared.cmp.Ordering.{Ordering}
use Rattle.std.specs.declared.cmp.Ordering.TheVariants.{Less, Equal, Greater}
use Rattle.std.specs.declared.ops.Bound.TheVariants.{Included, Unbounded}
use Rattle.std.proofs.lemmas.Map.Keys.{sorted_head, sorted_tail}
use Rattle.soar_prefs.specs.Places.{Places, place_cmp, of_key, is_of_key, front_of}
use Rattle.soar_prefs.proofs.KeyLemmas.{place_total}

module _ {K : Type 0} {cmp : K → K → Ordering} (total : IsTotalOrder cmp) where
  -- a place is of each key that its own compares equal to
  pub tied_of_key : (key own : K) (n : ℕ) → n < 2 ^ 64 → is_eq (cmp own key) ≡ is_of_key cmp key (own, n)
  tied_of_key key own n small = by (cmp own key) ∙ ap (λ o. is_le (ordering_then o (nat_cmp 0 n)) && not (is_lt (ordering_then o (nat_cmp (2 ^ 64 - 1) n)))) (sym (total.antisymm key own))
    where
      from : (n : ℕ) → is_le (nat_cmp 0 n) ≡ true
      from n = grind arith

      upto : (m n : ℕ) → n ≤ m → is_lt (nat_cmp m n) ≡ false
      upto m n h = grind arith

      by : (o : Ordering) → is_eq o ≡ (is_le (ordering_then (ordering_reverse o) (nat_cmp 0 n)) && not (is_lt (ordering_then (ordering_reverse o) (nat_cmp (2 ^ 64 - 1) n))))
      by Less = refl
      by Equal = sym (ap₂ (λ a b. a && not b) (from n) (upto (2 ^ 64 - 1) n (omega (arith, small))))
      by Greater = refl

module _ {K : Type 0} {cmp : K → K → Ordering} (total : IsTotalOrder cmp) (key : K) where
  is_low : K × ℕ → Bool
  is_low q = is_le (place_cmp cmp (key, 0) q)

  is_high : K × ℕ → Bool
  is_high q = is_lt (place_cmp cmp (key, 2 ^ 64 - 1) q)

  less : (o : Ordering) → is_lt o ≡ true → o ≡ Less
  less Less h = refl
  less Equal h = cc
  less Greater h = cc

  -- behind a place that is above those of the key, none is of it
  none_behind : (q : K × ℕ) (es : Places K) → is_high q ≡ true → AllByRecursion (λ k. place_cmp cmp q k ≡ Less) (keys_of es) → of_key cmp key es ≡ []
  unfolding is_high
  none_behind q [] high above = refl
  none_behind q (e ∷ es) high above = by (is_le (place_cmp cmp (key, 0) e.0)) (place_cmp cmp (key, 2 ^ 64 - 1) e.0) beyond (none_behind q es high above.1)
    where
      beyond : place_cmp cmp (key, 2 ^ 64 - 1) e.0 ≡ Less
      beyond = (place_total total).trans (key, 2 ^ 64 - 1) q e.0 (less (place_cmp cmp (key, 2 ^ 64 - 1) q) high) above.0

      by : (b : Bool) (o : Ordering) → o ≡ Less → of_key cmp key es ≡ [] → cond (b && not (is_lt o)) (e ∷ of_key cmp key es) (of_key cmp key es) ≡ []
      by true Less h deep = deep
      by false Less h deep = deep
      by b Equal h deep = absurd (cc)
      by b Greater h deep = absurd (cc)

  from_first : Places K → Places K
  from_first es = entries_between (place_cmp cmp) (Included (key, 0)) Unbounded es

  front_from : (es : Places K) → IsStrictlySortedBy (place_cmp cmp) (keys_of es) → front_of cmp key (from_first es) ≡ of_key cmp key es
  unfolding is_low is_high from_first
  front_from [] sorted = refl
  front_from (e ∷ es) sorted =
      by (is_low e.0) refl (is_high e.0) refl (front_from es (sorted_tail (place_cmp cmp) e.0 (keys_of es) sorted)) (λ high. none_behind e.0 es high (sorted_head (place_cmp cmp) e.0 (keys_of es) sorted))
    where
      by : (b : Bool) → is_low e.0 ≡ b → (d : Bool) → is_high e.0 ≡ d → front_of cmp key (from_first es) ≡ of_key cmp key es → (is_high e.0 ≡ true → of_key cmp key es ≡ [])
          → front_of cmp key (cond (b && true) (e ∷ from_first es) (from_first es)) ≡ cond (b && not d) (e ∷ of_key cmp key es) (of_key cmp key es)
      by false low d high deep behind = deep
      by true low false high deep behind = ap₂ (λ x y. cond (x && not y) (e ∷ front_of cmp key (from_first es)) []) low high ∙ ap (λ l. e ∷ l) deep
      by true low true high deep behind = ap₂ (λ x y. cond (x && not y) (e ∷ front_of cmp key (from_first es)) []) low high ∙ sym (behind high)

  -- the front of what stands from the first place of the key on
  pub front_is : (found es : Places K) → found ≡ entries_between (place_cmp cmp) (Included (key, 0)) Unbounded es → IsStrictlySortedBy (place_cmp cmp) (keys_of es) → front_of cmp key found ≡ of_key cmp key es
  unfolding from_first
  front_is found es is sorted = ap (front_of cmp key) is ∙ front_from es sorted
