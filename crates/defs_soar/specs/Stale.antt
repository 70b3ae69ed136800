-- When an explanation is stale: a ground is gone, or a negation is blocked (the cases are this engine's).
--
-- What a firing explained before may hold no longer when learning comes to it. Then nothing is learned, and the cause is told.
use Rattle.std.specs.Prelude.{ℕ, suc, List, [], ◌∷◌, Option, Some, None}
use Rattle.soar_rule.specs.Conditions.{Condition, positive, negated, conjunctive}
use Rattle.defs_match.specs.Element.{Element}
use Rattle.defs_match.specs.WorkingMemory.{element_of}
use Rattle.defs_match.specs.Rows.{Row, empty_row, extend, rows_from}

-- the least tag of a ground that working memory has no longer; grounds are in order of tag
abbrev pub tag_lost : List Element → List Element → Option ℕ
tag_lost elements [] = None
tag_lost elements (e ∷ grounds) = elim (element_of e.tag elements) [ None ↦ Some e.tag | Some f ↦ tag_lost elements grounds ]

abbrev pub blocking_rows : List Element → Condition → List Row
blocking_rows elements (positive p) = []
blocking_rows elements (negated p) = extend p elements empty_row
blocking_rows elements (conjunctive inside) = rows_from inside elements (empty_row ∷ [])

abbrev pub first_tag : List ℕ → ℕ
first_tag [] = 0
first_tag (tag ∷ tags) = tag

-- the place of a negation, from 1, and the tag of the first element that blocks it, 0 where the first blocking row has none
pub record Blocking : Type 0 where
  pub negation : ℕ
  pub tag : ℕ

abbrev pub blocked_from : ℕ → List Element → List Condition → Option Blocking
blocked_from n elements [] = None
blocked_from n elements (d ∷ negations) =
    elim (blocking_rows elements d) [ [] ↦ blocked_from (suc n) elements negations | row ∷ rows ↦ Some (record { negation = n; tag = first_tag row.tags }) ]
