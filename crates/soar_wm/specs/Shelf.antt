-- Elements in a slab, and what the maps of their keys find. No public clause cites this.
use Rattle.std.specs.Prelude.{◌≡◌, ℕ, ◌-◌, ◌^◌, ◌==◌, Bool, true, false, ◌&&◌, cond, List, [], ◌∷◌, map, Option, Some, None, is_some, unwrap_or}
use Rattle.std.specs.BTreeMap.Range.{entries_between}
use Rattle.std.specs.Map.{lookup}
use Rattle.std.specs.Ordering.{is_eq, nat_cmp, ordering_then}
use Rattle.std.specs.declared.cmp.Ordering.{Ordering}
use Rattle.std.specs.declared.ops.Bound.TheVariants.{Included}
use Rattle.soar_sym.specs.Equality.{symbol_eq, triple_eq}
use Rattle.soar_sym.specs.declared.symbol.Sym.{Sym}
use Rattle.soar_sym.specs.declared.symbol.Sym.TheVariants.{Ident, Word, Int}
use Rattle.soar_sym.specs.declared.symbol.Triple.{Triple}
use Rattle.soar_wm.specs.declared.element.Element.{Element}
use Rattle.soar_wm.specs.WorkingMemory.{has_triple, tag_of, element_of}

-- stands where there is no element
abbrev pub blank : Element
blank = record { tag = 0; id = Word 0; attr = Word 0; value = Word 0; accept = false; of_state = false }

abbrev pub element_at : (ℕ → Option Element) → ℕ → Element
element_at cells key = unwrap_or (cells key) blank

-- tags with the keys of their elements
abbrev pub Tags : Type 0
Tags = List (ℕ × ℕ)

-- triples with their tags
abbrev pub Triples : Type 0
Triples = List (Triple × ℕ)

-- eight bytes of a symbol: an identifier's letter and number; many words and integers share one
abbrev pub Place : Type 0
Place = ℕ × ℕ

abbrev pub place_of : Sym → Place
place_of (Ident letter number) = (letter, number)
place_of (Word word) = (0, word)
place_of (Int value) = (0, 0)

-- places of identifiers, with tags
abbrev pub Ids : Type 0
Ids = List ((Place × ℕ) × Unit {0})

-- the elements of these tags
abbrev pub listed : (ℕ → Option Element) → Tags → List Element
listed cells tags = map (λ e. element_at cells e.1) tags

-- each key has an element of its tag
abbrev pub IsStored : (ℕ → Option Element) → Tags → Type 0
IsStored cells [] = Unit {0}
IsStored cells (e ∷ tags) = (is_some (cells e.1) ≡ true) × ((element_at cells e.1).tag ≡ e.0) × IsStored cells tags

-- the order of the map by identifier
abbrev pub place_cmp : Place → Place → Ordering
place_cmp a b = ordering_then (nat_cmp a.0 b.0) (nat_cmp a.1 b.1)

abbrev pub id_cmp : Place × ℕ → Place × ℕ → Ordering
id_cmp a b = ordering_then (place_cmp a.0 b.0) (nat_cmp a.1 b.1)

-- what a map has at a tag, a triple, a place and a tag
abbrev pub at_tag : Tags → ℕ → Option ℕ
at_tag tags tag = lookup (λ k. is_eq (nat_cmp tag k)) tags

abbrev pub at_triple : Triples → Triple → Option ℕ
at_triple triples t = lookup (triple_eq t) triples

abbrev pub at_id : Ids → Place × ℕ → Option (Unit {0})
at_id ids q = lookup (λ k. is_eq (id_cmp q k)) ids

-- the entries of a place
abbrev pub of_place : Place → Ids → Ids
of_place place ids = entries_between id_cmp (Included (place, 0)) (Included (place, 2 ^ 32 - 1)) ids

-- what is under a key
abbrev pub cell_of : (ℕ → Option Element) → Option ℕ → Option Element
cell_of cells None = None
cell_of cells (Some key) = cells key

-- the element, if it is of the identifier
abbrev pub of_symbol : Sym → Option Element → Option Element
of_symbol id None = None
of_symbol id (Some e) = cond (symbol_eq e.id id) (Some e) None

abbrev pub has_place : Place → Element → Bool
has_place place e = is_eq (place_cmp (place_of e.id) place)

-- the mark of an element, if it is of the place
abbrev pub mark_at : Place → Option Element → Option (Unit {0})
mark_at place None = None
mark_at place (Some e) = cond (has_place place e) (Some tt) None

-- each element is found by its tag, by its triple and by its place, and nothing else is
pub record IsShelf (cells : ℕ → Option Element) (tags : Tags) (triples : Triples) (ids : Ids) : Type 0 where
  pub stored : IsStored cells tags
  pub by_triple : (t : Triple) → at_triple triples t ≡ tag_of t (listed cells tags)
  pub by_id : (q : Place × ℕ) → at_id ids q ≡ mark_at q.0 (element_of q.1 (listed cells tags))

abbrev pub is_id_of : Element → Place × ℕ → Bool
is_id_of e q = has_place q.0 e && (e.tag == q.1)

abbrev pub mark_of : Option ℕ → Option (Unit {0})
mark_of None = None
mark_of (Some tag) = Some tt

-- at the triple of an element, and at its place and tag, the maps have this tag now, and at others what they had
pub record Puts (e : Element) (tag : Option ℕ) (triples new_triples : Triples) (ids new_ids : Ids) : Type 0 where
  pub by_triple : (t : Triple) → at_triple new_triples t ≡ cond (has_triple t e) tag (at_triple triples t)
  pub by_id : (q : Place × ℕ) → at_id new_ids q ≡ cond (is_id_of e q) (mark_of tag) (at_id ids q)
