-- What stands first from a key on.
use Rattle.std.proofs.Common.{◌≡◌, ℕ, Bool, true, false, [], ◌∷◌, IfSome, is_some, slice_get, refl, ap, subst}
use Rattle.std.specs.BTreeMap.{BTreeMap}
use Rattle.std.specs.BTreeMap.Range.{IsEntryInRange, IsLeBy, IsRangeOf}
use Rattle.std.specs.Ordering.{is_gt}
use Rattle.std.specs.declared.cmp.Ordering.{Ordering}
use Rattle.std.specs.declared.ops.Bound.TheVariants.{Included, Unbounded}
use Rattle.input_memory.specs.Numbered.{Numbered, numbered_cmp, stands}

module _ {K : Type 0} (cmp : K → K → Ordering) (low : K) (map : BTreeMap (K × ℕ) (Unit {0})) (found : Numbered K) where
  -- what stands from the key on
  abbrev pub From : Type 0
  From = IsRangeOf (numbered_cmp cmp) (Included (low, 0)) Unbounded map found

  head : From → (x : (K × ℕ) × Unit {0}) (rest : Numbered K) → found ≡ x ∷ rest → IsEntryInRange (numbered_cmp cmp) (Included (low, 0)) Unbounded map x
  head range x rest is = subst (λ es. IfSome (slice_get es 0) (IsEntryInRange (numbered_cmp cmp) (Included (low, 0)) Unbounded map)) is range.1

  pub first_stands : From → (x : (K × ℕ) × Unit {0}) (rest : Numbered K) → found ≡ x ∷ rest → stands cmp map.entries x.0 ≡ true
  first_stands range x rest is = ap is_some (head range x rest is).1

  -- where the first cannot be below a place, the place is empty
  pub other_stands : From → (x : (K × ℕ) × Unit {0}) (rest : Numbered K) → found ≡ x ∷ rest → (q : K × ℕ) → is_gt (numbered_cmp cmp (low, 0) q) ≡ false
      → (is_gt (numbered_cmp cmp (low, 0) x.0) ≡ false → is_gt (numbered_cmp cmp x.0 q) ≡ false → true ≡ false) → stands cmp map.entries q ≡ false
  other_stands range x rest is q from apart = by (stands cmp map.entries q) refl
    where
      high : stands cmp map.entries q ≡ true → is_gt (numbered_cmp cmp x.0 q) ≡ false
      high there = subst (λ es. IfSome (slice_get es 0) (λ e. IsLeBy (numbered_cmp cmp) e.0 q)) is (range.2 q (from, tt) there)

      by : (b : Bool) → stands cmp map.entries q ≡ b → stands cmp map.entries q ≡ false
      by true there = (let bad : true ≡ false = apart (head range x rest is).0.0 (high there) in absurd (cc))
      by false there = there

  pub none_stands : From → found ≡ [] → (q : K × ℕ) → is_gt (numbered_cmp cmp (low, 0) q) ≡ false → stands cmp map.entries q ≡ false
  none_stands range empty q from = ap is_some (range.5 empty q (from, tt))
