-- The first tags of a list of tags, and what they tell of its place.
use Rattle.std.specs.Prelude.{ℕ, List, get_or}
use Rattle.std.specs.Cmp.Lexicographic.{slice_cmp}
use Rattle.std.specs.Ordering.{nat_cmp, ordering_then}
use Rattle.std.specs.declared.cmp.Ordering.{Ordering}

-- the tag at a place, and 0 past the end
abbrev pub tag_at : ℕ → List ℕ → ℕ
tag_at n tags = get_or tags n 0

-- by the second tags, then by the lists
abbrev pub later_cmp : List ℕ → List ℕ → Ordering
later_cmp t u = ordering_then (nat_cmp (tag_at 1 t) (tag_at 1 u)) (slice_cmp nat_cmp t u)
