-- Two lists of triples in their order made one. No public clause cites this module.
use Rattle.std.specs.Prelude.{◌≡◌, Bool, true, ◌&&◌, List, [], ◌∷◌, ◌++◌}
use Rattle.std.specs.Ordering.{is_lt, match_ordering}
use Rattle.std.specs.declared.cmp.Ordering.TheVariants.{Less}
use Rattle.soar_sym.specs.Order.{triple_cmp}
use Rattle.soar_sym.specs.Words.{Texts}
use Rattle.soar_sym.specs.declared.symbol.Triple.{Triple}
use Rattle.defs_soar.specs.Values.{has_triple_among}

-- those that come before a triple
abbrev pub moved : Texts → Triple → List Triple → List Triple
moved words t [] = []
moved words t (u ∷ triples) = match_ordering (triple_cmp words t u) [] (moved words t triples) (u ∷ moved words t triples)

-- those that come after it
abbrev pub left : Texts → Triple → List Triple → List Triple
left words t [] = []
left words t (u ∷ triples) = match_ordering (triple_cmp words t u) (u ∷ triples) (left words t triples) (left words t triples)

-- the triples of both
abbrev pub merged : Texts → List Triple → List Triple → List Triple
merged words [] b = b
merged words (t ∷ a) b = moved words t b ++ t ∷ merged words a (left words t b)

-- the triple comes before each of these
abbrev pub IsFirst : Texts → Triple → List Triple → Type 0
IsFirst words t [] = Unit {0}
IsFirst words t (u ∷ triples) = (triple_cmp words t u ≡ Less) × IsFirst words t triples

-- each comes before all after it
abbrev pub Rises : Texts → List Triple → Type 0
Rises words [] = Unit {0}
Rises words (t ∷ triples) = IsFirst words t triples × Rises words triples

-- whether the triple comes before the first of these, and each before the next
abbrev pub rises_after : Texts → Triple → List Triple → Bool
rises_after words t [] = true
rises_after words t (u ∷ triples) = is_lt (triple_cmp words t u) && rises_after words u triples

-- whether each comes before the next
abbrev pub is_rising : Texts → List Triple → Bool
is_rising words [] = true
is_rising words (t ∷ triples) = rises_after words t triples

-- the same triples, each before all after it
pub record IsSorting (words : Texts) (triples sorted : List Triple) : Type 0 where
  pub rises : Rises words sorted
  pub same : (t : Triple) → has_triple_among sorted t ≡ has_triple_among triples t
