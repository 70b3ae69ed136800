-- A goal in its place among those that went.
use Rattle.std.proofs.Common.{◌≡◌, ◌∙◌, ◌+◌, ℕ, suc, Bool, true, false, not, nat_lt, cond, List, [], ◌∷◌, ◌++◌, map, take, drop, append_assoc, refl, ap, arith}
use Rattle.std.proofs.lemmas.List.{map-append}
use Rattle.std.specs.List.{prefix_len}
use Rattle.defs_soar.specs.Trimming.{RemovedGoal, with_removed}

-- how many stand in front of the first that is deeper
abbrev pub count_above : {A : Type 0} → (A → RemovedGoal) → RemovedGoal → List A → ℕ
count_above f g xs = prefix_len (λ x. not (nat_lt g.depth (f x).depth)) xs

-- with the goal behind so many
abbrev pub put_at : {A : Type 0} → (A → RemovedGoal) → RemovedGoal → List A → ℕ → List RemovedGoal
put_at f g xs n = map f (take n xs) ++ g ∷ map f (drop n xs)

pub removed_at : {A : Type 0} (f : A → RemovedGoal) (g : RemovedGoal) (xs : List A) → put_at f g xs (count_above f g xs) ≡ with_removed g (map f xs)
removed_at f g [] = refl
removed_at f g (x ∷ xs) = by (nat_lt g.depth (f x).depth) (count_above f g xs) (removed_at f g xs)
  where
    by : (b : Bool) (n : ℕ) → put_at f g xs n ≡ with_removed g (map f xs)
        → put_at f g (x ∷ xs) (cond (not b) (1 + n) 0) ≡ cond b (g ∷ (f x ∷ map f xs)) (f x ∷ with_removed g (map f xs))
    by true n later = refl
    by false n later =
        let one : 1 + n ≡ suc n = omega arith in
        ap (put_at f g (x ∷ xs)) one ∙ ap (λ gs. f x ∷ gs) later

-- the list that is put together of the two parts and the goal
pub merged_at : {A : Type 0} (f : A → RemovedGoal) (g : A) (xs : List A) (n : ℕ) (above deeper all : List A) → n ≡ count_above f (f g) xs → above ≡ take n xs → deeper ≡ drop n xs
    → all ≡ (above ++ g ∷ []) ++ deeper → map f all ≡ with_removed (f g) (map f xs)
merged_at f g xs n above deeper all n_is above_is deeper_is all_is =
    ap (map f) (all_is ∙ append_assoc above (g ∷ []) deeper) ∙ map-append f above (g ∷ deeper)
    ∙ (λ k. map f (above_is k) ++ f g ∷ map f (deeper_is k)) ∙ ap (put_at f (f g) xs) n_is ∙ removed_at f (f g) xs
