-- Triples by number, and the places by which they are found. No public clause cites this.
use Rattle.std.specs.Prelude.{◌≡◌, ℕ, ◌<◌, ◌==◌, Bool, true, false, ◌&&◌, cond, List, [], ◌∷◌, Option, Some, None}
use Rattle.std.specs.BTreeMap.Range.{entries_between}
use Rattle.std.specs.Map.{lookup}
use Rattle.std.specs.Ordering.{is_eq, nat_cmp}
use Rattle.std.specs.declared.ops.Bound.TheVariants.{Included, Excluded}
use Rattle.soar_sym.specs.declared.symbol.Sym.{Sym}
use Rattle.soar_sym.specs.declared.symbol.Triple.{Triple}
use Rattle.input_memory.specs.Key.{is_of}
use Rattle.input_memory.specs.Numbered.{Numbered, numbered_cmp, stands}
use Rattle.input_memory.specs.Order.{place_cmp}
use Rattle.input_memory.specs.Place.{edge, place_of, triple_of, IsTold}
use Rattle.input_memory.specs.declared.index.Index.{Index}
use Rattle.input_memory.specs.declared.key.Key.{Key}
use Rattle.input_memory.specs.declared.place.Place.{Place}

-- triples with their numbers
abbrev pub Triples : Type 0
Triples = List (ℕ × Triple)

abbrev pub triple_at : Triples → ℕ → Option Triple
triple_at triples n = lookup (λ k. is_eq (nat_cmp n k)) triples

-- places with numbers
abbrev pub Places : Type 0
Places = Numbered Place

-- whether the number stands at the place
abbrev pub has : Index → Place × ℕ → Bool
has index q = stands place_cmp index.places.entries q

-- the place is that of the triple
abbrev pub is_placed : Place → Triple → Bool
is_placed p triple = is_eq (place_cmp (place_of triple) p)

-- the place and the number are those of the triple
abbrev pub is_own : Triple → ℕ → Place × ℕ → Bool
is_own triple number q = is_placed q.0 triple && (number == q.1)

-- at the place of the triple this stands now, and at others what stood there
abbrev pub Writes : Triple → ℕ → Bool → Index → Index → Type 0
Writes triple number now old new = (q : Place × ℕ) → has new q ≡ cond (is_own triple number q) now (has old q)

-- the number stands at a place of the key
pub record IsFound (key : Key) (index : Index) (n : ℕ) : Type 0 where
  pub place : Place
  pub here : has index (place, n) ≡ true
  pub own : is_of key (triple_of place) ≡ true

-- the part of an identifier
abbrev pub part_of : Sym → Places → Places
part_of id places = entries_between (numbered_cmp place_cmp) (Included (edge id 0, 0)) (Excluded (edge id 4, 0)) places

-- the triple of the last of the places with the number n, or else o
abbrev pub last_over : ℕ → Option Triple → Places → Option Triple
last_over n o [] = o
last_over n o (e ∷ places) = last_over n (cond (is_eq (nat_cmp e.0.1 n)) (Some (triple_of e.0.0)) o) places

-- whether a triple is found by a key, if there is one
abbrev pub is_held : Key → Option Triple → Bool
is_held key None = false
is_held key (Some triple) = is_of key triple

-- whether the place is that of a triple, if there is one
abbrev pub is_noted : Place → Option Triple → Bool
is_noted p None = false
is_noted p (Some triple) = is_placed p triple

-- its place tells a triple, if there is one
abbrev pub IsToldAt : Option Triple → Type 0
IsToldAt None = Unit {0}
IsToldAt (Some triple) = IsTold triple

-- the number is below those of the triples
abbrev pub IsBefore : ℕ → Triples → Type 0
IsBefore n [] = Unit {0}
IsBefore n (e ∷ triples) = (n < e.0) × IsBefore n triples

-- numbers rise, up to the next one
abbrev pub IsNumbered : ℕ → Triples → Type 0
IsNumbered next [] = Unit {0}
IsNumbered next (e ∷ triples) = (e.0 < next) × IsBefore e.0 triples × IsNumbered next triples

-- each triple stands at its place, which tells it, and nothing else does
pub record IsStore (triples : Triples) (numbers : Index) (next : ℕ) : Type 0 where
  pub numbered : IsNumbered next triples
  pub told : (n : ℕ) → IsToldAt (triple_at triples n)
  pub found : (q : Place × ℕ) → has numbers q ≡ is_noted q.0 (triple_at triples q.1)
