-- Instances by their keys.
use Rattle.std.proofs.Common.{◌≡◌, ℕ, Bool, true, false, ◌&&◌, ◌||◌, ◌==◌, List, [], ◌∷◌, map, ap, ap₂, refl, sym, ◌∙◌, arith}
use Rattle.std.specs.Cmp.Lexicographic.{slice_cmp}
use Rattle.std.specs.List.{list_any}
use Rattle.std.specs.BTreeSet.{insert_key}
use Rattle.std.specs.Ordering.{is_eq, match_ordering, nat_cmp, ordering_then}
use Rattle.std.specs.declared.cmp.Ordering.{Ordering}
use Rattle.std.specs.declared.cmp.Ordering.TheVariants.{Less, Equal, Greater}
use Rattle.defs_match.specs.declared.instance.Instance.{Instance}
use Rattle.defs_soar.specs.Pending.{instance_eq, tags_eq}
use Rattle.outstanding.specs.Keys.{Key, has_key, key_eq}

-- ---- the order of keys

then_same : (x y : Ordering) → is_eq (ordering_then x y) ≡ (is_eq x && is_eq y)
then_same Less y = refl
then_same Equal y = refl
then_same Greater y = refl

nat_same : (m n : ℕ) → is_eq (nat_cmp m n) ≡ (m == n)
nat_same m n = grind arith

abbrev pub tags_cmp : List ℕ → List ℕ → Ordering
tags_cmp = slice_cmp nat_cmp

tags_same : (xs ys : List ℕ) → is_eq (tags_cmp xs ys) ≡ tags_eq xs ys
tags_same [] [] = refl
tags_same [] (y ∷ ys) = refl
tags_same (x ∷ xs) [] = refl
tags_same (x ∷ xs) (y ∷ ys) = then_same (nat_cmp x y) (tags_cmp xs ys) ∙ ap₂ (λ a b. a && b) (nat_same x y) (tags_same xs ys)

-- equal keys compare as equal, and no others
pub pair_same : (m n : ℕ) (xs ys : List ℕ) → is_eq (ordering_then (nat_cmp m n) (tags_cmp xs ys)) ≡ ((m == n) && tags_eq xs ys)
pair_same m n xs ys = then_same (nat_cmp m n) (tags_cmp xs ys) ∙ ap₂ (λ a b. a && b) (nat_same m n) (tags_same xs ys)

both : (a b : Bool) → (a && b) ≡ true → (a ≡ true) × (b ≡ true)
both true b h = (refl, h)
both false b h = cc

number_is : (m n : ℕ) → (m == n) ≡ true → m ≡ n
number_is m n h = grind arith

tags_are : (xs ys : List ℕ) → tags_eq xs ys ≡ true → xs ≡ ys
tags_are [] [] h = refl
tags_are [] (y ∷ ys) h = cc
tags_are (x ∷ xs) [] h = cc
tags_are (x ∷ xs) (y ∷ ys) h =
    let parts = both (x == y) (tags_eq xs ys) h in
    λ i. number_is x y parts.0 i ∷ tags_are xs ys parts.1 i

-- ---- a set of keys whose tags are kept in some way

module _ {V : Type 0} (items : V → List ℕ) (cmp : ℕ × V → ℕ × V → Ordering) (same : (a b : ℕ × V) → is_eq (cmp a b) ≡ ((a.0 == b.0) && tags_eq (items a.1) (items b.1))) where
  abbrev pub seen : ℕ × V → Key
  seen k = (k.0, items k.1)

  one_found : (k key : ℕ × V) (i : Instance) → seen key ≡ (i.rule, i.tags) → is_eq (cmp key k) ≡ key_eq i (seen k)
  one_found k key i is = same key k ∙ (λ j. ((is j).0 == k.0) && tags_eq (is j).1 (items k.1))

  pub found : (keys : List (ℕ × V)) (key : ℕ × V) (i : Instance) → seen key ≡ (i.rule, i.tags) → list_any (λ k. is_eq (cmp key k)) keys ≡ has_key (map seen keys) i
  found [] key i is = refl
  found (k ∷ keys) key i is = ap₂ (λ a b. a || b) (one_found k key i is) (found keys key i is)

  compared : (o : Ordering) → o ≡ Equal → is_eq o ≡ true
  compared Less e = cc
  compared Equal e = refl
  compared Greater e = cc

  same_seen : (k x : ℕ × V) → cmp k x ≡ Equal → seen k ≡ seen x
  same_seen k x e =
      let parts = both (k.0 == x.0) (tags_eq (items k.1) (items x.1)) (sym (same k x) ∙ compared (cmp k x) e) in
      λ j. (number_is k.0 x.0 parts.0 j, tags_are (items k.1) (items x.1) parts.1 j)

  pub added : (keys : List (ℕ × V)) (k : ℕ × V) (i : Instance) → has_key (map seen (insert_key cmp keys k)) i ≡ (key_eq i (seen k) || has_key (map seen keys) i)
  added [] k i = refl
  added (x ∷ keys) k i = by (cmp k x) refl (added keys k i)
    where
      twice : (a b : Bool) → (a || b) ≡ (a || (a || b))
      twice true b = refl
      twice false b = refl

      turned : (a b c : Bool) → (a || (b || c)) ≡ (b || (a || c))
      turned true true c = refl
      turned true false c = refl
      turned false true c = refl
      turned false false c = refl

      by : (o : Ordering) → cmp k x ≡ o → has_key (map seen (insert_key cmp keys k)) i ≡ (key_eq i (seen k) || has_key (map seen keys) i)
          → has_key (map seen (match_ordering o (k ∷ x ∷ keys) (x ∷ keys) (x ∷ insert_key cmp keys k))) i ≡ (key_eq i (seen k) || (key_eq i (seen x) || has_key (map seen keys) i))
      by Less e later = refl
      by Equal e later =
          twice (key_eq i (seen x)) (has_key (map seen keys) i)
          ∙ ap (λ b. b || (key_eq i (seen x) || has_key (map seen keys) i)) (ap (key_eq i) (sym (same_seen k x e)))
      by Greater e later = ap (λ b. key_eq i (seen x) || b) later ∙ turned (key_eq i (seen x)) (key_eq i (seen k)) (has_key (map seen keys) i)

-- one instance more, by its key
pub put_key : (i j : Instance) (key : Key) (keys : List Key) → key ≡ (j.rule, j.tags) → (key_eq i key || has_key keys i) ≡ (instance_eq i j || has_key keys i)
put_key i j key keys is = ap (λ k. key_eq i k || has_key keys i) is
