-- Places up to 2^32 - 1, and first rows.
use Rattle.std.proofs.Common.{◌≡◌, refl, ◌∙◌, ap, ap₂, ℕ, suc, ◌+◌, ◌<◌, min, List, [], ◌∷◌, length, Option, Some, None, arith}
use Rattle.soar_rule.specs.Conditions.{Condition}
use Rattle.soar_wm.specs.declared.element.Element.{Element}
use Rattle.defs_match.specs.Rows.{Row}
use Rattle.defs_soar.specs.Stale.{Blocking, blocked_from, blocking_rows, first_tag}
use Rattle.chunk_learn.specs.Blocked.{tag_of_first, told_from}
use Rattle.chunk_learn.specs.Candidates.{blocking_told}

pub tag_of_none : (rows : List Row) → length rows ≡ 0 → tag_of_first rows ≡ None
tag_of_none [] h = refl
tag_of_none (row ∷ rows) h = absurd (omega (arith, h))

pub first_of_none : (tags : List ℕ) → length tags ≡ 0 → first_tag tags ≡ 0
first_of_none [] h = refl
first_of_none (tag ∷ tags) h = absurd (omega (arith, h))

capped_next : (n : ℕ) → min (min n 4294967295 + 1) 4294967295 ≡ min (suc n) 4294967295
capped_next n = omega arith

told_is_from : (n : ℕ) (elements : List Element) (negations : List Condition)
    → told_from (min n 4294967295) elements negations ≡ blocking_told (blocked_from n elements negations)
told_is_from n elements [] = refl
told_is_from n elements (d ∷ negations) = go (blocking_rows elements d) (told_is_from (suc n) elements negations)
  where
    go : (rows : List Row) → told_from (min (suc n) 4294967295) elements negations ≡ blocking_told (blocked_from (suc n) elements negations)
        → elim (tag_of_first rows) as (λ _. Option (ℕ × ℕ)) [ Some tag ↦ Some (min n 4294967295, tag) | None ↦ told_from (min (min n 4294967295 + 1) 4294967295) elements negations ]
        ≡ blocking_told (elim rows as (λ _. Option Blocking) [ [] ↦ blocked_from (suc n) elements negations | row ∷ others ↦ Some (record { negation = n; tag = first_tag row.tags }) ])
    go [] later = ap (λ m. told_from m elements negations) (capped_next n) ∙ later
    go (row ∷ rows) later = refl

pub told_is : (elements : List Element) (negations : List Condition) → told_from 1 elements negations ≡ blocking_told (blocked_from 1 elements negations)
told_is elements negations = told_is_from 1 elements negations

-- ---- back from what is told

abbrev place_in : Option (ℕ × ℕ) → ℕ
place_in None = 0
place_in (Some p) = p.0

abbrev tag_in : Option (ℕ × ℕ) → ℕ
tag_in None = 0
tag_in (Some p) = p.1

abbrev is_told : Option (ℕ × ℕ) → ℕ
is_told None = 0
is_told (Some p) = 1

pub none_blocked : (o : Option Blocking) → blocking_told o ≡ None → o ≡ None
none_blocked None h = refl
none_blocked (Some b) h = let e : 1 ≡ 0 = ap is_told h in absurd (omega (arith, e))

uncapped : (n place : ℕ) → min n 4294967295 ≡ place → place < 4294967295 → n ≡ place
uncapped n place h small = omega (arith, h, small)

pub blocked_is : (o : Option Blocking) (place tag : ℕ) → blocking_told o ≡ Some (place, tag) → place < 4294967295 → o ≡ Some (record { negation = place; tag = tag })
blocked_is None place tag h small = let e : 0 ≡ 1 = ap is_told h in absurd (omega (arith, e))
blocked_is (Some b) place tag h small = ap₂ (λ n t. Some (record { negation = n; tag = t })) (uncapped b.negation place (ap place_in h) small) (ap tag_in h)
