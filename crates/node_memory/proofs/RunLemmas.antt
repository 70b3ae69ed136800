-- A walk from the least key that passes, for as long as keys pass, finds all that do.
use Rattle.std.proofs.Common.{◌≡◌, ◌&&◌, refl, sym, ap, ◌∙◌, Bool, true, false, cond, List, [], ◌∷◌, filter}
use Rattle.std.specs.Ordering.{is_le}
use Rattle.std.specs.declared.cmp.Ordering.{Ordering}
use Rattle.std.specs.declared.cmp.Ordering.TheVariants.{Less}
use Rattle.std.specs.Map.{keys_of}
use Rattle.std.specs.List.{AllByRecursion}
use Rattle.std.specs.List.Sorted.{IsStrictlySortedBy}
use Rattle.std.proofs.lemmas.Map.Keys.{sorted_head, sorted_tail}
use Rattle.node_memory.specs.Runs.{front_while}

module _ {K : Type 0} (cmp : K → K → Ordering) (least : K) (q : K → Bool) where
  -- each key that passes is not below the least
  abbrev pub StartsAt : Type 0
  StartsAt = (k : K) → q k ≡ true → is_le (cmp least k) ≡ true

  -- what lies between the least and one that passes, passes too
  abbrev pub HasNoGap : Type 0
  HasNoGap = (h k : K) → is_le (cmp least h) ≡ true → cmp h k ≡ Less → q k ≡ true → q h ≡ true

  module _ {X : Type 0} where
    none_pass : (h : K) (es : List (K × X)) → HasNoGap → is_le (cmp least h) ≡ true → q h ≡ false → AllByRecursion (λ k. cmp h k ≡ Less) (keys_of es) → filter (λ (e : K × X). q e.0) es ≡ []
    none_pass h [] gap from fails above = refl
    none_pass h (e ∷ es) gap from fails above = by (q e.0) refl (none_pass h es gap from fails above.1)
      where
        by : (b : Bool) → q e.0 ≡ b → filter (λ (e : K × X). q e.0) es ≡ [] → cond b (e ∷ filter (λ (e : K × X). q e.0) es) (filter (λ (e : K × X). q e.0) es) ≡ []
        by true passes deep = (let bad : true ≡ false = sym (gap h e.0 from above.0 passes) ∙ fails in absurd (cc))
        by false fails deep = deep

    pub run_is_filter : (es : List (K × X)) → StartsAt → HasNoGap → IsStrictlySortedBy cmp (keys_of es)
        → front_while (λ (e : K × X). q e.0) (filter (λ (e : K × X). is_le (cmp least e.0)) es) ≡ filter (λ (e : K × X). q e.0) es
    run_is_filter [] start gap s = refl
    run_is_filter (e ∷ es) start gap s =
        by (is_le (cmp least e.0)) refl (q e.0) refl (run_is_filter es start gap (sorted_tail cmp e.0 (keys_of es) s)) (λ from fails. none_pass e.0 es gap from fails (sorted_head cmp e.0 (keys_of es) s))
      where
        by : (b : Bool) → is_le (cmp least e.0) ≡ b → (d : Bool) → q e.0 ≡ d → front_while (λ (e : K × X). q e.0) (filter (λ (e : K × X). is_le (cmp least e.0)) es) ≡ (filter (λ (e : K × X). q e.0) es) → (is_le (cmp least e.0) ≡ true → q e.0 ≡ false → (filter (λ (e : K × X). q e.0) es) ≡ [])
            → front_while (λ (e : K × X). q e.0) (cond b (e ∷ (filter (λ (e : K × X). is_le (cmp least e.0)) es)) (filter (λ (e : K × X). is_le (cmp least e.0)) es)) ≡ cond d (e ∷ (filter (λ (e : K × X). q e.0) es)) (filter (λ (e : K × X). q e.0) es)
        by true lower true passes deep rest = ap (λ c. cond c (e ∷ front_while (λ (e : K × X). q e.0) (filter (λ (e : K × X). is_le (cmp least e.0)) es)) []) passes ∙ ap (λ l. e ∷ l) deep
        by true lower false fails deep rest = ap (λ c. cond c (e ∷ front_while (λ (e : K × X). q e.0) (filter (λ (e : K × X). is_le (cmp least e.0)) es)) []) fails ∙ sym (rest lower fails)
        by false lower true passes deep rest = (let bad : true ≡ false = sym (start e.0 passes) ∙ lower in absurd (cc))
        by false lower false fails deep rest = deep

pub and_true : {A : Type 0} (p : A → Bool) (xs : List A) → filter (λ x. p x && true) xs ≡ filter p xs
and_true p [] = refl
and_true p (x ∷ xs) = by (p x) (and_true p xs)
  where
    by : (b : Bool) → filter (λ x. p x && true) xs ≡ filter p xs → cond (b && true) (x ∷ filter (λ x. p x && true) xs) (filter (λ x. p x && true) xs) ≡ cond b (x ∷ filter p xs) (filter p xs)
    by true deep = ap (λ l. x ∷ l) deep
    by false deep = deep
