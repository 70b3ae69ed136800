-- A map's entries are what it finds.
use Rattle.std.proofs.Common.{◌≡◌, ◌↔◌, ◌⊎◌, inl, inr, refl, sym, ap, ◌∙◌, Bool, true, false, cond, ℕ, List, [], ◌∷◌, Some}
use Rattle.std.specs.Ordering.{nat_cmp, is_eq, ordering_then}
use Rattle.std.specs.declared.cmp.Ordering.TheVariants.{Less, Equal}
use Rattle.std.specs.Cmp.{tied_itself}
use Rattle.std.specs.Cmp.Lexicographic.{slice_cmp}
use Rattle.std.specs.BTreeMap.{is_at}
use Rattle.std.specs.Map.{keys_of, lookup}
use Rattle.std.specs.List.{AllByRecursion}
use Rattle.std.specs.List.Sorted.{IsStrictlySortedBy}
use Rattle.std.proofs.lemmas.Map.Keys.{sorted_head, sorted_tail}
use Rattle.std.proofs.lemmas.Option.{same_Some}
use Rattle.std.proofs.lemmas.Cmp.{nat_cmp_total}
use Rattle.defs_match.specs.Laws.{IsIn}
use Rattle.defs_match.specs.Testing.{Bindings}
use Rattle.defs_match.specs.Rows.{Row}
use Rattle.node_memory.specs.Memories.{has, row_at, rows_in}
use Rattle.node_memory.proofs.SymbolLemmas.{tags_tied, equal_told}

pub itself : (t : List ℕ) → slice_cmp nat_cmp t t ≡ Equal
itself [] = refl
itself (n ∷ t) = ap (λ o. ordering_then o (slice_cmp nat_cmp t t)) (tied_itself nat_cmp_total n) ∙ itself t

above : (es : List ((List ℕ) × Bindings)) (t : List ℕ) (x : Row) → AllByRecursion (λ k. slice_cmp nat_cmp t k ≡ Less) (keys_of es) → IsIn x (rows_in es) → slice_cmp nat_cmp t x.tags ≡ Less
above [] t x h i = absurd i
above (e ∷ es) t x h (inl same) = ap (λ (y : Row). slice_cmp nat_cmp t y.tags) (sym same) ∙ h.0
above (e ∷ es) t x h (inr i) = above es t x h.1 i

pub finds_rows : (es : List ((List ℕ) × Bindings)) → IsStrictlySortedBy (slice_cmp nat_cmp) (keys_of es) → (x : Row) → has (λ q. lookup (is_at (slice_cmp nat_cmp q)) es) x ↔ IsIn x (rows_in es)
finds_rows [] s x = ((λ h. absurd (cc)), λ h. absurd h)
finds_rows (e ∷ es) s x = by (is_at (slice_cmp nat_cmp x.tags) e.0) refl (finds_rows es (sorted_tail (slice_cmp nat_cmp) e.0 (keys_of es) s) x) (λ i. above es e.0 x (sorted_head (slice_cmp nat_cmp) e.0 (keys_of es) s) i)
  where
    by : (b : Bool) → is_at (slice_cmp nat_cmp x.tags) e.0 ≡ b → (lookup (is_at (slice_cmp nat_cmp x.tags)) es ≡ Some x.bindings) ↔ IsIn x (rows_in es) → (IsIn x (rows_in es) → slice_cmp nat_cmp e.0 x.tags ≡ Less)
        → (cond b (Some e.1) (lookup (is_at (slice_cmp nat_cmp x.tags)) es) ≡ Some x.bindings) ↔ ((row_at e ≡ x) ⊎ IsIn x (rows_in es))
    by true at deep higher =
        let tags : x.tags ≡ e.0 = tags_tied x.tags e.0 (equal_told (slice_cmp nat_cmp x.tags e.0) at) in (
          (λ h. inl (λ i. record { tags = sym tags i; bindings = same_Some e.1 x.bindings h i })),
          (λ h. elim h [
            | inl same ↦ (λ i. Some ((same i).bindings))
            | inr i ↦ (let bad : Equal ≡ Less = sym (itself e.0) ∙ ap (slice_cmp nat_cmp e.0) (sym tags) ∙ higher i in absurd (cc))
          ]),
        )
    by false at deep higher = (
      (λ h. inr (deep.0 h)),
      (λ h. elim h [
        | inl same ↦ (let bad : true ≡ false = ap is_eq (sym (itself e.0) ∙ ap (λ (y : Row). slice_cmp nat_cmp y.tags e.0) same) ∙ at in absurd (cc))
        | inr i ↦ deep.1 i
      ]),
    )

-- the tags of a row of a map are among its keys
pub keys_have : (es : List ((List ℕ) × Bindings)) (x : Row) → IsIn x (rows_in es) → IsIn x.tags (keys_of es)
keys_have [] x h = absurd h
keys_have (e ∷ es) x (inl same) = inl (ap (λ (y : Row). y.tags) same)
keys_have (e ∷ es) x (inr h) = inr (keys_have es x h)
