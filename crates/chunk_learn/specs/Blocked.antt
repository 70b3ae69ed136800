-- The first negation that is blocked, by places as they are told.
use Rattle.std.specs.Prelude.{ℕ, ◌+◌, ◌-◌, ◌^◌, min, List, [], ◌∷◌, Option, Some, None}
use Rattle.soar_rule.specs.Conditions.{Condition}
use Rattle.soar_wm.specs.declared.element.Element.{Element}
use Rattle.defs_match.specs.Rows.{Row}
use Rattle.defs_soar.specs.Stale.{blocking_rows, first_tag}

abbrev pub tag_of_first : List Row → Option ℕ
tag_of_first [] = None
tag_of_first (row ∷ rows) = Some (first_tag row.tags)

-- the tag that blocks a negation
abbrev pub blocking_tag : List Element → Condition → Option ℕ
blocking_tag elements d = tag_of_first (blocking_rows elements d)

-- a place stays at 2^32 - 1
abbrev pub told_from : ℕ → List Element → List Condition → Option (ℕ × ℕ)
told_from n elements [] = None
told_from n elements (d ∷ negations) = elim (blocking_tag elements d) [ Some tag ↦ Some (n, tag) | None ↦ told_from (min (n + 1) (2 ^ 32 - 1)) elements negations ]
