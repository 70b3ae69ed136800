-- Rows by number, and the numbers by what rows are found. No public clause cites this.
use Rattle.std.specs.Prelude.{◌≡◌, ℕ, ◌+◌, ◌^◌, ◌<◌, ◌≤◌, ◌==◌, Bool, false, ◌&&◌, cond, List, [], ◌∷◌, length, Option, Some, None}
use Rattle.std.specs.Map.{lookup}
use Rattle.std.specs.Ordering.{is_eq, is_lt, nat_cmp}
use Rattle.soar_sym.specs.Equality.{symbol_eq, mark_eq}
use Rattle.soar_sym.specs.declared.symbol.Triple.{Triple as Fact}
use Rattle.defs_soar.specs.declared.preference.Preference.{Preference}
use Rattle.soar_prefs.specs.Places.{stands, firing_cmp, sym_cmp, slot_cmp, triple_cmp}
use Rattle.soar_prefs.specs.declared.event.Event.{Event}
use Rattle.soar_prefs.specs.declared.index.Index.{Index}
use Rattle.soar_prefs.specs.declared.key.Key.{Key}
use Rattle.soar_prefs.specs.declared.key.Key.TheVariants.{Firing, Id, Variablized, Triple}

abbrev pub same_key : Key → Key → Bool
same_key (Firing s f) (Firing t g) = mark_eq s t && (f == g)
same_key (Id a) (Id b) = symbol_eq a b
same_key (Variablized a b) (Variablized x y) = symbol_eq a x && symbol_eq b y
same_key (Triple a b c) (Triple x y z) = symbol_eq a x && (symbol_eq b y && symbol_eq c z)
same_key a b = false

-- the row is found by the key
abbrev pub is_of : Key → Preference → Bool
is_of (Firing s f) row = mark_eq row.operator_support s && (row.firing == f)
is_of (Id id) row = symbol_eq row.wish.id id
is_of (Variablized id attr) row = symbol_eq row.wish.id id && symbol_eq row.wish.attr attr
is_of (Triple id attr value) row = symbol_eq row.wish.id id && (symbol_eq row.wish.attr attr && symbol_eq row.wish.value value)

-- rows with their numbers
abbrev pub Rows : Type 0
Rows = List (ℕ × Preference)

abbrev pub row_at : Rows → ℕ → Option Preference
row_at rows n = lookup (λ k. is_eq (nat_cmp n k)) rows

-- whether the number stands under the key, in the map of its kind
abbrev pub has_key : Index → Key → ℕ → Bool
has_key index (Firing s f) n = stands firing_cmp index.firings.entries ((s, f), n)
has_key index (Id id) n = stands sym_cmp index.ids.entries (id, n)
has_key index (Variablized id attr) n = stands slot_cmp index.slots.entries ((id, attr), n)
has_key index (Triple id attr value) n = stands triple_cmp index.triples.entries ((id, attr, value), n)

abbrev pub has : Index → Key × ℕ → Bool
has index q = has_key index q.0 q.1

abbrev pub same_place : Key × ℕ → Key × ℕ → Bool
same_place p q = same_key p.0 q.0 && (p.1 == q.1)

-- the place is one of the row
abbrev pub is_own : Preference → ℕ → Key × ℕ → Bool
is_own row number q = is_of q.0 row && (number == q.1)

-- at the places of the row this stands now, and at others what stood there
abbrev pub Marks : Preference → ℕ → Bool → Index → Index → Type 0
Marks row number now old new = (q : Key × ℕ) → has new q ≡ cond (is_own row number q) now (has old q)

-- at other places stands what stood there
abbrev pub MarksOthers : Preference → ℕ → Index → Index → Type 0
MarksOthers row number old new = (q : Key × ℕ) → is_own row number q ≡ false → has new q ≡ has old q

-- whether a row is found by a key, if there is one
abbrev pub is_held : Key → Option Preference → Bool
is_held key None = false
is_held key (Some row) = is_of key row

-- the number is below those of the rows
abbrev pub IsBefore : ℕ → Rows → Type 0
IsBefore n [] = Unit {0}
IsBefore n (e ∷ rows) = (n < e.0) × IsBefore n rows

-- numbers rise, up to the next one
abbrev pub IsNumbered : ℕ → Rows → Type 0
IsNumbered next [] = Unit {0}
IsNumbered next (e ∷ rows) = (e.0 < next) × IsBefore e.0 rows × IsNumbered next rows

-- each row stands under its keys, and nothing else does
pub record IsStore (rows : Rows) (numbers : Index) (next : ℕ) : Type 0 where
  pub numbered : IsNumbered next rows
  pub small : next < 2 ^ 64
  pub found : (q : Key × ℕ) → has numbers q ≡ is_held q.0 (row_at rows q.1)

-- ---- what came and went

-- the event of a row, and the row of an event
abbrev pub event_of : ℕ → Preference → Bool → Event
event_of number row came = record {
  number = number;
  firing = row.firing;
  id = row.wish.id;
  attr = row.wish.attr;
  value = row.wish.value;
  referent = row.wish.referent;
  kind = row.wish.kind;
  operator_support = row.operator_support;
  came = came;
}

abbrev pub row_of : Event → Preference
row_of event = record {
  firing = event.firing;
  wish = record { id = event.id; attr = event.attr; value = event.value; kind = event.kind; referent = event.referent };
  operator_support = event.operator_support;
}

-- the triple of a row, without mark
abbrev pub plain : Preference → Fact
plain row = record { id = row.wish.id; attr = row.wish.attr; value = row.wish.value; accept = false }

abbrev pub triple_key : Preference → Key
triple_key row = Triple row.wish.id row.wish.attr row.wish.value

-- without the first row of the number that is of the triple of this one
abbrev pub taken_out : ℕ → Preference → Rows → Rows
taken_out n row [] = []
taken_out n row (e ∷ rows) = cond (is_eq (nat_cmp n e.0) && is_of (triple_key row) e.1) rows (e ∷ taken_out n row rows)

-- with the row, before those of higher numbers
abbrev pub put_back : ℕ → Preference → Rows → Rows
put_back n row [] = (n, row) ∷ []
put_back n row (e ∷ rows) = cond (is_lt (nat_cmp n e.0)) ((n, row) ∷ e ∷ rows) (e ∷ put_back n row rows)

-- the rows before it came or went
abbrev pub before : Event → Rows → Rows
before event rows = cond event.came (taken_out event.number (row_of event) rows) (put_back event.number (row_of event) rows)

-- the rows before all that came and went, the last first
abbrev pub undone : List Event → Rows → Rows
undone [] rows = rows
undone (event ∷ journal) rows = before event (undone journal rows)

-- what was noted, and each row to go, has room
abbrev pub HasRoom : Rows → ℕ → ℕ → Type 0
HasRoom rows noted capacity = length rows + noted ≤ capacity
