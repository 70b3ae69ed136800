-- The tags that begin with others stand next to each other.
use Rattle.std.proofs.Common.{◌≡◌, refl, sym, ◌∙◌, ap, true, false, [], ◌∷◌, filter, List, ℕ, ◌++◌, ◌&&◌, ◌==◌, Bool, length, ◌+◌, inl, inr, cond, drop}
use Rattle.std.specs.Ordering.{nat_cmp, is_le, ordering_then, ordering_reverse}
use Rattle.std.specs.declared.cmp.Ordering.TheVariants.{Less, Equal, Greater}
use Rattle.std.specs.Cmp.{tied_itself}
use Rattle.std.specs.Cmp.Lexicographic.{slice_cmp}
use Rattle.std.specs.Map.{keys_of}
use Rattle.std.specs.List.Sorted.{IsStrictlySortedBy}
use Rattle.std.proofs.lemmas.Cmp.{nat_cmp_total}
use Rattle.defs_match.specs.Testing.{Bindings}
use Rattle.node_memory.specs.Changes.{begins, is_below}
use Rattle.node_memory.specs.Memories.{entries_not_below}
use Rattle.node_memory.specs.Runs.{front_while}
use Rattle.node_memory.proofs.ChangeLemmas.{begins_told, begins_back}
use Rattle.node_memory.proofs.KeyLemmas.{le_then, then_less}
use Rattle.node_memory.proofs.SymbolLemmas.{number_tied}
use Rattle.node_memory.proofs.RunLemmas.{run_is_filter}

-- a list is not above those that it begins
prefix_le : (t rest : List ℕ) → is_le (slice_cmp nat_cmp t (t ++ rest)) ≡ true
prefix_le [] [] = refl
prefix_le [] (x ∷ rest) = refl
prefix_le (x ∷ t) rest = ap (λ o. is_le (ordering_then o (slice_cmp nat_cmp t (t ++ rest)))) (tied_itself nat_cmp_total x) ∙ prefix_le t rest

-- what lies between a list and one that it begins, it begins too
between_prefix : (t h rest : List ℕ) → is_le (slice_cmp nat_cmp t h) ≡ true → slice_cmp nat_cmp h (t ++ rest) ≡ Less → (more : List ℕ) × (h ≡ t ++ more)
between_prefix [] h rest a b = (h, refl)
between_prefix (x ∷ t) [] rest a b = absurd (cc)
between_prefix (x ∷ t) (y ∷ h) rest a b =
    elim (then_less (nat_cmp y x) (slice_cmp nat_cmp h (t ++ rest)) b) [
      | inl less ↦ elim (le_then (nat_cmp x y) (slice_cmp nat_cmp t h) a) [
        | inl below ↦ (let flip : nat_cmp x y ≡ Greater = nat_cmp_total.antisymm x y ∙ ap ordering_reverse less in
            let bad : Less ≡ Greater = sym below ∙ flip in absurd (cc))
        | inr same ↦ (let flip : nat_cmp x y ≡ Greater = nat_cmp_total.antisymm x y ∙ ap ordering_reverse less in
            let bad : Equal ≡ Greater = sym same.0 ∙ flip in absurd (cc))
      ]
      | inr equal ↦ (let one : y ≡ x = number_tied y x equal.0 in
          let up : nat_cmp x y ≡ Equal = ap (nat_cmp x) one ∙ tied_itself nat_cmp_total x in
          let deeper : is_le (slice_cmp nat_cmp t h) ≡ true = ap (λ o. is_le (ordering_then o (slice_cmp nat_cmp t h))) (sym up) ∙ a in
          let deep = between_prefix t h rest deeper equal.1 in
          (deep.0, (let tail : h ≡ t ++ deep.0 = deep.1 in cc)))
    ]

starts : (t k : List ℕ) → begins t k ≡ true → is_le (slice_cmp nat_cmp t k) ≡ true
starts t k h = ap (λ j. is_le (slice_cmp nat_cmp t j)) (begins_told t k h) ∙ prefix_le t (drop (length t) k)

no_gap : (t h k : List ℕ) → is_le (slice_cmp nat_cmp t h) ≡ true → slice_cmp nat_cmp h k ≡ Less → begins t k ≡ true → begins t h ≡ true
no_gap t h k low high passes =
    let inside = between_prefix t h (drop (length t) k) low (ap (slice_cmp nat_cmp h) (sym (begins_told t k passes)) ∙ high) in
    begins_back t h inside.0 inside.1

only_begun : (t : List ℕ) (es : List ((List ℕ) × Bindings)) → filter (is_below t) (keys_of (filter (λ (e : (List ℕ) × Bindings). begins t e.0) es)) ≡ filter (is_below t) (keys_of es)
only_begun t [] = refl
only_begun t (e ∷ es) = by (begins t e.0) refl (only_begun t es)
  where
    by : (b : Bool) → begins t e.0 ≡ b → filter (is_below t) (keys_of (filter (λ (e : (List ℕ) × Bindings). begins t e.0) es)) ≡ filter (is_below t) (keys_of es)
        → filter (is_below t) (keys_of (cond b (e ∷ filter (λ (e : (List ℕ) × Bindings). begins t e.0) es) (filter (λ (e : (List ℕ) × Bindings). begins t e.0) es)))
        ≡ cond (begins t e.0 && (length e.0 == length t + 1)) (e.0 ∷ filter (is_below t) (keys_of es)) (filter (is_below t) (keys_of es))
    by true at deep = ap (λ l. cond (is_below t e.0) (e.0 ∷ l) l) deep
    by false at deep = deep ∙ sym (ap (λ b. cond (b && (length e.0 == length t + 1)) (e.0 ∷ filter (is_below t) (keys_of es)) (filter (is_below t) (keys_of es))) at)

-- the walk finds exactly the entries that begin with the tags
pub begun_run : (t : List ℕ) (es : List ((List ℕ) × Bindings)) → IsStrictlySortedBy (slice_cmp nat_cmp) (keys_of es)
    → front_while (λ (e : (List ℕ) × Bindings). begins t e.0) (entries_not_below t es) ≡ filter (λ (e : (List ℕ) × Bindings). begins t e.0) es
begun_run t es s = run_is_filter (slice_cmp nat_cmp) t (begins t) es (starts t) (no_gap t) s

-- the walk finds exactly the tags below
pub below_run : (t : List ℕ) (es : List ((List ℕ) × Bindings)) → IsStrictlySortedBy (slice_cmp nat_cmp) (keys_of es)
    → filter (is_below t) (keys_of (front_while (λ (e : (List ℕ) × Bindings). begins t e.0) (entries_not_below t es))) ≡ filter (is_below t) (keys_of es)
below_run t es s = ap (λ (l : List ((List ℕ) × Bindings)). filter (is_below t) (keys_of l)) (run_is_filter (slice_cmp nat_cmp) t (begins t) es (starts t) (no_gap t) s) ∙ only_begun t es
