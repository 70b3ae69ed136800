-- Which limit is passed, by how many elements and tags there are.
use Rattle.std.proofs.Common.{◌≡◌, refl, ap₂, ℕ, ◌+◌, ◌≤◌, nat_lt, Bool, true, false, cond, arith, List, [], ◌∷◌, length, Some, None}
use Rattle.soar_wm.specs.declared.element.Element.{Element}
use Rattle.soar_wm.specs.WorkingMemory.{IsBelow, IsGiven, IsRising}
use Rattle.defs_soar.specs.Limits.{elements_to, first_passed, or_limit, tags_to}
use Rattle.defs_soar.specs.declared.limit.Which.TheVariants as which

-- ---- no more elements than tags

fewer_above : (b last : ℕ) (elements : List Element) → IsBelow b elements → IsRising elements → IsGiven last elements → b ≤ last → b + length elements ≤ last
fewer_above b last [] below rising given h = omega (arith, h)
fewer_above b last (e ∷ elements) below rising given h =
    omega (arith, below.0, fewer_above e.tag last elements rising.0 rising.1 given.2 given.1)

pub fewer_than_tags : (last : ℕ) (elements : List Element) → IsRising elements → IsGiven last elements → length elements ≤ last
fewer_than_tags last [] rising given = omega arith
fewer_than_tags last (e ∷ elements) rising given = omega (arith, given.0, fewer_above e.tag last elements rising.0 rising.1 given.2 given.1)

-- ---- limits

not_above : (limit n : ℕ) → n ≤ limit → nat_lt limit n ≡ false
not_above limit n h = grind (arith, h)

pub none_passed : (elements tags : ℕ) → elements ≤ 4000000 → tags ≤ 4294967295 → first_passed (elements_to elements ∷ tags_to tags ∷ []) ≡ None
none_passed elements tags few left =
    ap₂ (λ a b. or_limit (cond a (Some which.Elements) None) (or_limit (cond b (Some which.Tags) None) None)) (not_above 4000000 elements few) (not_above 4294967295 tags left)

pub room_left : (elements tags : ℕ) → first_passed (elements_to elements ∷ tags_to tags ∷ []) ≡ None → (elements ≤ 4000000) × (tags ≤ 4294967295)
room_left elements tags none = by (nat_lt 4000000 elements) refl (nat_lt 4294967295 tags) refl none
  where
    within : (limit n : ℕ) → nat_lt limit n ≡ false → n ≤ limit
    within limit n h = grind (arith, h)

    by : (a : Bool) → nat_lt 4000000 elements ≡ a → (b : Bool) → nat_lt 4294967295 tags ≡ b
        → or_limit (cond a (Some which.Elements) None) (or_limit (cond b (Some which.Tags) None) None) ≡ None → (elements ≤ 4000000) × (tags ≤ 4294967295)
    by true p b q k = absurd (cc)
    by false p true q k = absurd (cc)
    by false p false q k = (within 4000000 elements p, within 4294967295 tags q)
