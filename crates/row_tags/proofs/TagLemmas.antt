-- Where the first tags of two lists differ, the lists differ in the same direction; likewise the second.
use Rattle.std.proofs.Common.{◌≡◌, ℕ, zero, suc, List, [], ◌∷◌, refl, sym, ap, ◌∙◌, arith}
use Rattle.std.specs.Cmp.{nat_cmp_is}
use Rattle.std.specs.Cmp.Lexicographic.{pointwise, slice_cmp, texts_ties}
use Rattle.std.specs.Ordering.{nat_cmp, is_eq, ordering_then}
use Rattle.std.specs.Prelude.{nat_eq}
use Rattle.std.specs.declared.cmp.Ordering.{Ordering}
use Rattle.std.specs.declared.cmp.Ordering.TheVariants.{Less, Equal, Greater}
use Rattle.row_tags.specs.Tags.{tag_at, later_cmp}

-- 0 is above nothing
nothing_below : (n : ℕ) → ordering_then (nat_cmp 0 n) Less ≡ Less
nothing_below zero = refl
nothing_below (suc n) = ap (λ o. ordering_then o Less) (sym (nat_cmp_is 0 (suc n) Less (omega (arith))))

nothing_above : (n : ℕ) → ordering_then (nat_cmp n 0) Greater ≡ Greater
nothing_above zero = refl
nothing_above (suc n) = ap (λ o. ordering_then o Greater) (sym (nat_cmp_is (suc n) 0 Greater (omega (arith))))

twice : (o p : Ordering) → ordering_then o (ordering_then o p) ≡ ordering_then o p
twice Less p = refl
twice Equal p = refl
twice Greater p = refl

told_by_first : (t u : List ℕ) → ordering_then (nat_cmp (tag_at 0 t) (tag_at 0 u)) (slice_cmp nat_cmp t u) ≡ slice_cmp nat_cmp t u
told_by_first [] [] = refl
told_by_first [] (n ∷ u) = nothing_below n
told_by_first (m ∷ t) [] = nothing_above m
told_by_first (m ∷ t) (n ∷ u) = twice (nat_cmp m n) (slice_cmp nat_cmp t u)

-- the order of the second tags stands between the first and the lists
between : (o p q : Ordering) → ordering_then p q ≡ q → ordering_then o (ordering_then p (ordering_then o q)) ≡ ordering_then o q
between Less p q h = refl
between Equal p q h = h
between Greater p q h = refl

pub told_by_two : (t u : List ℕ) → ordering_then (nat_cmp (tag_at 0 t) (tag_at 0 u)) (later_cmp t u) ≡ slice_cmp nat_cmp t u
told_by_two [] [] = refl
told_by_two [] (n ∷ u) = ap (ordering_then (nat_cmp 0 n)) (nothing_below (tag_at 0 u)) ∙ nothing_below n
told_by_two (m ∷ t) [] = ap (ordering_then (nat_cmp m 0)) (nothing_above (tag_at 0 t)) ∙ nothing_above m
told_by_two (m ∷ t) (n ∷ u) = between (nat_cmp m n) (nat_cmp (tag_at 0 t) (tag_at 0 u)) (slice_cmp nat_cmp t u) (told_by_first t u)

pub tied : (t u : List ℕ) → is_eq (slice_cmp nat_cmp t u) ≡ pointwise nat_eq t u
tied t u = sym (texts_ties t u)
