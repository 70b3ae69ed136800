-- Which triples are looked at, and which elements go and which triples come of them. No public clause cites this module.
use Rattle.std.specs.Prelude.{◌≡◌, ℕ, ◌<◌, Bool, true, false, ◌&&◌, not, List, [], ◌∷◌, ◌++◌, filter, flat_map, get_or, length, map, Option, Some, None, if◌then◌else◌}
use Rattle.std.specs.BTreeMap.{insert_entry}
use Rattle.std.specs.Ordering.{nat_cmp}
use Rattle.soar_sym.specs.Equality.{mark_eq, symbol_eq}
use Rattle.soar_sym.specs.declared.symbol.Sym.{Sym}
use Rattle.soar_sym.specs.declared.symbol.Triple.{Triple}
use Rattle.soar_wm.specs.declared.element.Element.{Element}
use Rattle.soar_wm.specs.WorkingMemory.{elements_of, has_triple, triple_of}
use Rattle.defs_soar.specs.declared.goal.Goal.{Goal}
use Rattle.defs_soar.specs.Goals.{goal_ids, is_goal}
use Rattle.defs_soar.specs.Settling.{stays}
use Rattle.defs_soar.specs.Sorted.{has_symbol}
use Rattle.defs_soar.specs.Values.{has_triple_among}

-- ---- what is looked at

abbrev pub with_mark : Triple → Bool → Triple
with_mark t mark = record { id = t.id; attr = t.attr; value = t.value; accept = mark }

-- the triple unmarked and marked
abbrev pub marks_of : Triple → List Triple
marks_of t = with_mark t false ∷ with_mark t true ∷ []

abbrev pub both_marks : List Triple → List Triple
both_marks triples = flat_map marks_of triples

-- the triples that elements of these identifiers have
abbrev pub triples_of : List Sym → List Element → List Triple
triples_of ids elements = flat_map (λ id. map triple_of (elements_of id elements)) ids

-- those of these identifiers that are not among others
abbrev pub left_by : List Sym → List Sym → List Sym
left_by others ids = filter (λ s. not (has_symbol others s)) ids

-- the symbol stands at the place
pub record IsSymbolAt (symbols : List Sym) (at : ℕ) (s : Sym) : Type 0 where
  pub within : at < length symbols
  pub is : symbol_eq s (get_or symbols at s) ≡ true

-- what is not among these is a goal exactly if it was one
abbrev pub CoverChanged : List Sym → List Sym → List Sym → Type 0
CoverChanged before ids changed = (s : Sym) → has_symbol changed s ≡ false → has_symbol before s ≡ has_symbol ids s

-- the triples that are named, and those of elements of identifiers that became goals or are none any more
pub record IsLooked (before : List Sym) (goals : List Goal) (touched : List Triple) (elements : List Element) (looked : List Triple) : Type 0 where
  pub changed : List Sym
  pub covers : CoverChanged before (goal_ids goals) changed
  pub looked_is : looked ≡ both_marks touched ++ triples_of changed elements

-- ---- what becomes of it

-- the element that has the triple
abbrev pub first_with : Triple → List Element → Option Element
first_with t [] = None
first_with t (e ∷ elements) = if has_triple t e then Some e else first_with t elements

abbrev pub unless_stays : List Goal → List Triple → Option Element → Option Element
unless_stays goals kept None = None
unless_stays goals kept (Some e) = if stays goals kept e then None else Some e

-- the element that has the triple and does not stay
abbrev pub gone_of : List Goal → List Triple → List Element → Triple → Option Element
gone_of goals kept elements t = unless_stays goals kept (first_with t elements)

-- the flag of an element is that of its identifier
abbrev pub is_flagged : List Goal → Element → Bool
is_flagged goals e = mark_eq e.of_state (is_goal goals e.id)

abbrev pub is_standing : List Goal → Option Element → Bool
is_standing goals None = false
is_standing goals (Some e) = is_flagged goals e

-- the triple is kept, and no element with the right flag has it
abbrev pub comes : List Goal → List Triple → List Element → Triple → Bool
comes goals kept elements t = has_triple_among kept t && not (is_standing goals (first_with t elements))

-- ---- in order of tag

-- entries with those of elements, each at its tag
abbrev pub with_elements : List Element → List (ℕ × Element) → List (ℕ × Element)
with_elements [] entries = entries
with_elements (e ∷ elements) entries = with_elements elements (insert_entry nat_cmp entries e.tag e)

-- the elements of entries
abbrev pub elements_in : List (ℕ × Element) → List Element
elements_in entries = map (λ e. e.1) entries
