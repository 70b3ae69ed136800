-- Live firings by their places, and the places by what firings are found. No public clause cites this.
use Rattle.std.specs.Prelude.{◌≡◌, ℕ, ◌+◌, ◌-◌, ◌^◌, ◌<◌, ◌≤◌, ◌==◌, Bool, true, false, nat_lt, not, cond, List, [], ◌∷◌, map, filter, length, Option, Some, None, is_some}
use Rattle.std.specs.BTreeMap.Range.{entries_between}
use Rattle.std.specs.BTreeSet.{BTreeSet}
use Rattle.std.specs.List.{list_any}
use Rattle.std.specs.Map.{lookup}
use Rattle.std.specs.Ordering.{is_eq, is_lt, nat_cmp, ordering_then}
use Rattle.std.specs.declared.cmp.Ordering.{Ordering}
use Rattle.std.specs.declared.ops.Bound.TheVariants.{Included, Unbounded}
use Rattle.match_changes.specs.Told.{key_of}
use Rattle.match_changes.specs.declared.key.MatchKey.{MatchKey}
use Rattle.open_instances.specs.Keys.{key_cmp}
use Rattle.live_firings.specs.declared.index.Index.{Index}
use Rattle.live_firings.specs.declared.live.Live.{Live}

-- firings with their places
abbrev pub Rows : Type 0
Rows = List (ℕ × Live)

-- what firings are found by, with their places
abbrev pub Places : Type 0 → Type 0
Places K = List ((K × ℕ) × Unit {0})

abbrev pub place_cmp : {K : Type 0} → (K → K → Ordering) → K × ℕ → K × ℕ → Ordering
place_cmp cmp a b = ordering_then (cmp a.0 b.0) (nat_cmp a.1 b.1)

abbrev pub row_at : Rows → ℕ → Option Live
row_at rows n = lookup (λ k. is_eq (nat_cmp n k)) rows

-- whether this stands there
abbrev pub has : {K : Type 0} → (K → K → Ordering) → Places K → K × ℕ → Bool
has cmp places q = is_some (lookup (λ k. is_eq (place_cmp cmp q k)) places)

-- at one place this stands now, and at others what stood there
abbrev pub Marks : {K : Type 0} → (K → K → Ordering) → K × ℕ → Bool → Places K → Places K → Type 0
Marks {K = K} cmp p now old new = (q : K × ℕ) → has cmp new q ≡ cond (is_eq (place_cmp cmp p q)) now (has cmp old q)

-- at other places stands what stood there
abbrev pub MarksOthers : {K : Type 0} → (K → K → Ordering) → K × ℕ → Places K → Places K → Type 0
MarksOthers {K = K} cmp p old new = (q : K × ℕ) → is_eq (place_cmp cmp p q) ≡ false → has cmp new q ≡ has cmp old q

-- the same for a number, a depth and a key
pub record Marked (number depth : ℕ) (key : MatchKey) (place : ℕ) (now : Bool) (old new : Index) : Type 0 where
  pub numbers : Marks nat_cmp (number, place) now old.numbers.entries new.numbers.entries
  pub depths : Marks nat_cmp (depth, place) now old.depths.entries new.depths.entries
  pub matches : Marks key_cmp (key, place) now old.matches.entries new.matches.entries

pub record MarkedOthers (number depth : ℕ) (key : MatchKey) (place : ℕ) (old new : Index) : Type 0 where
  pub numbers : MarksOthers nat_cmp (number, place) old.numbers.entries new.numbers.entries
  pub depths : MarksOthers nat_cmp (depth, place) old.depths.entries new.depths.entries
  pub matches : MarksOthers key_cmp (key, place) old.matches.entries new.matches.entries

-- a place at a depth, or below it
pub record IsDeep (depth : ℕ) (places : Places ℕ) (place : ℕ) : Type 0 where
  pub at : ℕ
  pub deep : depth ≤ at
  pub there : has nat_cmp places (at, place) ≡ true

-- whether a firing passes a test, if there is one
abbrev pub is_held : (Live → Bool) → Option Live → Bool
is_held test None = false
is_held test (Some l) = test l

-- the place is below those of the firings
abbrev pub IsBefore : ℕ → Rows → Type 0
IsBefore n [] = Unit {0}
IsBefore n (e ∷ rows) = (n < e.0) × IsBefore n rows

-- places rise, up to the next one
abbrev pub IsNumbered : ℕ → Rows → Type 0
IsNumbered next [] = Unit {0}
IsNumbered next (e ∷ rows) = (e.0 < next) × IsBefore e.0 rows × IsNumbered next rows

-- each firing stands under what it is found by, and nothing else does
abbrev pub Stands : {K : Type 0} → (K → K → Ordering) → (Live → K) → Rows → Places K → Type 0
Stands {K = K} cmp key rows places = (q : K × ℕ) → has cmp places q ≡ is_held (λ l. is_eq (cmp (key l) q.0)) (row_at rows q.1)

abbrev pub match_of : Live → MatchKey
match_of l = key_of l.instance

pub record IsStore (rows : Rows) (index : Index) (next mark : ℕ) : Type 0 where
  pub numbered : IsNumbered next rows
  pub small : next < 2 ^ 64
  pub marked : mark ≤ next
  pub numbers : Stands nat_cmp (λ l. l.number) rows index.numbers.entries
  pub depths : Stands nat_cmp (λ l. l.depth) rows index.depths.entries
  pub matches : Stands key_cmp match_of rows index.matches.entries

-- the numbers of the firings from a depth on
abbrev pub deep_numbers : ℕ → List Live → List ℕ
deep_numbers depth live = map (λ l. l.number) (filter (λ l. not (nat_lt l.depth depth)) live)

-- ---- what came and went

-- the firings that were told already
abbrev pub before_mark : ℕ → Rows → Rows
before_mark mark rows = filter (λ e. nat_lt e.0 mark) rows

-- the firings that came since
abbrev pub from_mark : ℕ → Rows → Rows
from_mark mark rows = entries_between nat_cmp (Included mark) Unbounded rows

-- with the firing, before those of higher places
abbrev pub put_back : ℕ → Live → Rows → Rows
put_back n l [] = (n, l) ∷ []
put_back n l (e ∷ rows) = cond (is_lt (nat_cmp n e.0)) ((n, l) ∷ e ∷ rows) (e ∷ put_back n l rows)

-- with all that went, the last first
abbrev pub undone : List (ℕ × Live) → Rows → Rows
undone [] rows = rows
undone (g ∷ gone) rows = put_back g.0 g.1 (undone gone rows)

-- the firings when they were told last
abbrev pub told_rows : ℕ → List (ℕ × Live) → Rows → Rows
told_rows mark gone rows = undone gone (before_mark mark rows)

-- what went, and each firing to go, has room
abbrev pub HasRoom : Rows → ℕ → ℕ → Type 0
HasRoom rows noted capacity = length rows + noted ≤ capacity

-- ---- the places of a key

abbrev pub of_match : MatchKey → Places MatchKey → Places MatchKey
of_match key matches = entries_between (place_cmp key_cmp) (Included (key, 0)) (Included (key, 2 ^ 64 - 1)) matches

-- these are the places of these keys
abbrev pub ArePlacesOf : List MatchKey → Places MatchKey → BTreeSet ℕ → Type 0
ArePlacesOf keys matches places = (p : ℕ) → list_any (λ n. n == p) places.keys ≡ list_any (λ k. list_any (λ e. e.0.1 == p) (of_match k matches)) keys
