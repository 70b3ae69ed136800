-- How what is lost is found by what was looked at. No public clause cites this module.
use Rattle.std.specs.Prelude.{◌≡◌, ℕ, Bool, true, false, ◌||◌, List, [], ◌∷◌, ◌++◌, filter, flat_map, Some, None, if◌then◌else◌}
use Rattle.soar_sym.specs.declared.symbol.Triple.{Triple}
use Rattle.soar_wm.specs.declared.element.Element.{Element}
use Rattle.soar_wm.specs.WorkingMemory.{element_of, tag_of, triple_of}
use Rattle.defs_soar.specs.Trimming.{is_lost}
use Rattle.soar_prefs.specs.Memory.{has_plain}
use Rattle.dependency_tables.specs.Tables.{is_among, is_in_tables}

-- the element of the tag has one of the triples, marks apart
abbrev pub is_touched : List Element → List Triple → ℕ → Bool
is_touched elements touched tag = elim (element_of tag elements) [ None ↦ false | Some e ↦ has_plain touched (triple_of e) ]

-- of the tags of the tables, those that are lost are doubted, or their elements have one of the triples
abbrev pub AreLooked : List (List ℕ) → List Element → List Triple → List ℕ → List Triple → Type 0
AreLooked tables elements kept doubted touched =
    (tag : ℕ) → is_in_tables tables tag ≡ true → is_lost elements kept tag ≡ true → (is_among doubted tag || is_touched elements touched tag) ≡ true

abbrev pub with_mark : Triple → Bool → Triple
with_mark t mark = record t { accept = mark }

abbrev pub where_lost : List Element → List Triple → ℕ → List ℕ
where_lost elements kept tag = if is_lost elements kept tag then tag ∷ [] else []

-- the tag of a triple, where it is lost
abbrev pub lost_with : List Element → List Triple → Triple → List ℕ
lost_with elements kept t = elim (tag_of t elements) as (λ _. List ℕ) [ None ↦ [] | Some tag ↦ where_lost elements kept tag ]

abbrev pub lost_at : List Element → List Triple → Triple → List ℕ
lost_at elements kept t = lost_with elements kept (with_mark t false) ++ lost_with elements kept (with_mark t true)

-- the tags that are lost of triples, unmarked and marked
abbrev pub lost_of : List Element → List Triple → List Triple → List ℕ
lost_of elements kept touched = flat_map (lost_at elements kept) touched

-- and of those that are doubted
abbrev pub lost_among : List Element → List Triple → List ℕ → List Triple → List ℕ
lost_among elements kept doubted touched = filter (is_lost elements kept) doubted ++ lost_of elements kept touched
