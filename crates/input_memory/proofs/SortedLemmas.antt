-- Two lists of entries in order, in which each key finds the same, are one.
use Rattle.std.proofs.Common.{◌≡◌, Bool, true, false, ◌&&◌, T, cond, List, [], ◌∷◌, Some, refl, sym, ap, subst, ◌∙◌}
use Rattle.std.specs.BTreeMap.{is_at}
use Rattle.std.specs.Cmp.{IsTotalOrder}
use Rattle.std.specs.FinMap.Entries.{find, below_all, is_sorted}
use Rattle.std.specs.FinMap.Entries as entries
use Rattle.std.specs.List.{AllByRecursion}
use Rattle.std.specs.List.Sorted.{IsStrictlySortedBy}
use Rattle.std.specs.Map.{lookup, keys_of}
use Rattle.std.specs.Ordering.{is_lt}
use Rattle.std.specs.declared.cmp.Ordering.{Ordering}
use Rattle.std.specs.declared.cmp.Ordering.TheVariants.{Less}
use Rattle.std.proofs.lemmas.Map.Lookups.{CmpEqualImpliesEq}

pub both : (a b : Bool) → T a → T b → T (a && b)
both true b p q = q
both false b p q = p

module _ {K X : Type 0} (R : K → K → Ordering) where
  below : (k : K) (es : List (K × X)) → AllByRecursion (λ q. R k q ≡ Less) (keys_of es) → T (below_all R k es)
  below k [] all = tt
  below k (e ∷ es) all = both _ _ (subst (λ o. T (is_lt o)) (sym all.0) tt) (below k es all.1)

  pub rising : (es : List (K × X)) → IsStrictlySortedBy R (keys_of es) → T (is_sorted R es)
  unfolding IsStrictlySortedBy
  rising [] ordered = tt
  rising (e ∷ es) ordered = both _ _ (below e.0 es ordered.0) (rising es ordered.1)

  finding : (q : K) (es : List (K × X)) → find R q es ≡ lookup (is_at (R q)) es
  finding q [] = refl
  finding q (e ∷ es) = ap (λ o. cond (is_at (R q) e.0) (Some e.1) o) (finding q es)

  pub same_entries : IsTotalOrder R → CmpEqualImpliesEq R → (es fs : List (K × X)) → T (is_sorted R es) → T (is_sorted R fs) → ((q : K) → lookup (is_at (R q)) es ≡ lookup (is_at (R q)) fs) → es ≡ fs
  same_entries total exact es fs s t same = entries.same_entries R total exact es fs s t (λ q. finding q es ∙ same q ∙ sym (finding q fs))
