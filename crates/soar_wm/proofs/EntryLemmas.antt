-- Two lists of entries in order, in which each key finds the same, are one.
use Rattle.std.proofs.Common.{◌≡◌, Bool, true, false, List, [], ◌∷◌, Option, Some, None, is_some, true≢false, unwrap_or, refl, sym, ap, ◌∙◌}
use Rattle.std.specs.BTreeMap.{is_at}
use Rattle.std.specs.Cmp.{IsTotalOrder}
use Rattle.std.specs.List.Sorted.{IsStrictlySortedBy}
use Rattle.std.specs.Map.{lookup, keys_of}
use Rattle.std.specs.Ordering.{is_eq, ordering_reverse}
use Rattle.std.specs.declared.cmp.Ordering.{Ordering}
use Rattle.std.specs.declared.cmp.Ordering.TheVariants.{Less, Equal, Greater}
use Rattle.std.proofs.lemmas.Cmp.{tied_itself, eq_by_cmp_equiv}
use Rattle.std.proofs.lemmas.Map.{lookup-none}
use Rattle.std.proofs.lemmas.Map.Entries.{lookup_head, lookup_tail, none_past_head, none_below_head}
use Rattle.std.proofs.lemmas.Map.Keys.{sorted_tail, IsDistinct-from_sorted}
use Rattle.std.proofs.lemmas.Map.Lookups.{CmpEqualImpliesEq}

module _ {K X : Type 0} {R : K → K → Ordering} (o : IsTotalOrder R) (exact : CmpEqualImpliesEq R) where
  abbrev find : List (K × X) → K → Option X
  find es q = lookup (is_at (R q)) es

  abbrev Alike : List (K × X) → List (K × X) → Type 0
  Alike es fs = (q : K) → find es q ≡ find fs q

  at_head : (x : K × X) (xs : List (K × X)) → find (x ∷ xs) x.0 ≡ Some x.1
  at_head x xs = lookup_head (is_at (R x.0)) x xs (ap is_eq (tied_itself o x.0))

  never : (v : X) → Some v ≡ None → ⊥
  never v h = true≢false (ap is_some h)

  past : (q : K) (x : K × X) (xs : List (K × X)) → IsStrictlySortedBy R (keys_of (x ∷ xs)) → is_eq (R q x.0) ≡ true → find xs q ≡ None
  past q x xs s h = lookup-none (is_at (R q)) xs (none_past_head (eq_by_cmp_equiv o) q x xs (IsDistinct-from_sorted R _ s) h)

  module _ (x y : K × X) (xs ys : List (K × X)) (s : IsStrictlySortedBy R (keys_of (x ∷ xs))) (t : IsStrictlySortedBy R (keys_of (y ∷ ys))) (h : Alike (x ∷ xs) (y ∷ ys)) where
    by_heads : (r : Ordering) → R x.0 y.0 ≡ r → x.0 ≡ y.0
    by_heads Less p = absurd (never x.1 (sym (at_head x xs) ∙ h x.0 ∙ lookup-none _ (y ∷ ys) (none_below_head o x.0 y ys t p)))
    by_heads Equal p = exact x.0 y.0 p
    by_heads Greater p = absurd (never y.1 (sym (at_head y ys) ∙ sym (h y.0) ∙ lookup-none _ (x ∷ xs) (none_below_head o y.0 x xs s (o.antisymm y.0 x.0 ∙ ap ordering_reverse p))))

    heads : x.0 ≡ y.0
    heads = by_heads (R x.0 y.0) refl

    values : x.1 ≡ y.1
    values = ap (λ u. unwrap_or u x.1) (sym (at_head x xs) ∙ h x.0 ∙ lookup_head (is_at (R x.0)) y ys (ap is_eq (ap (R x.0) (sym heads) ∙ tied_itself o x.0)))

    tails : Alike xs ys
    tails q = by (is_eq (R q x.0)) refl
      where
        by : (b : Bool) → is_eq (R q x.0) ≡ b → find xs q ≡ find ys q
        by true e = past q x xs s e ∙ sym (past q y ys t (ap (λ k. is_eq (R q k)) (sym heads) ∙ e))
        by false e = sym (lookup_tail (is_at (R q)) x xs e) ∙ h q ∙ lookup_tail (is_at (R q)) y ys (ap (λ k. is_eq (R q k)) (sym heads) ∙ e)

  pub same_entries : (es fs : List (K × X)) → IsStrictlySortedBy R (keys_of es) → IsStrictlySortedBy R (keys_of fs) → Alike es fs → es ≡ fs
  same_entries [] [] s t h = refl
  same_entries [] (y ∷ ys) s t h = absurd (never y.1 (sym (h y.0 ∙ at_head y ys)))
  same_entries (x ∷ xs) [] s t h = absurd (never x.1 (sym (at_head x xs) ∙ h x.0))
  same_entries (x ∷ xs) (y ∷ ys) s t h =
      let rest = same_entries xs ys (sorted_tail R x.0 (keys_of xs) s) (sorted_tail R y.0 (keys_of ys) t) (tails x y xs ys s t h) in
      λ i. (heads x y xs ys s t h i, values x y xs ys s t h i) ∷ rest i
