-- Preference memory as its calls see it.
use Rattle.std.specs.Prelude.{◌≡◌, ℕ, ◌<◌, ◌≤◌, Bool, false, ◌&&◌, ◌||◌, not, List, length, filter, Result, Ok, Err, if◌then◌else◌}
use Rattle.std.specs.List.{list_any}
use Rattle.soar_sym.specs.Equality.{symbol_eq}
use Rattle.soar_sym.specs.declared.symbol.Triple.{Triple}
use Rattle.defs_soar.specs.declared.preference.PrefKind.TheVariants as kind
use Rattle.defs_soar.specs.declared.preference.Preference.{Preference}
use Rattle.defs_soar.specs.Preferences.{is_kept_already, with_row}
use Rattle.settling_laws.specs.Changes.{has_row, has_value, of_value}
use Rattle.soar_prefs.specs.declared.fault.PrefFault.{PrefFault}
use Rattle.soar_prefs.specs.declared.fault.PrefFault.TheVariants as fault

-- the rows in order of adding, how many there may be, and the rows when changes were last taken, in order of adding
pub record PreferenceMemory : Type 0 where
  pub rows : List Preference
  pub limit : ℕ
  pub settled : List Preference

-- the row is of the triple, marks apart
abbrev pub is_of_triple : Triple → Preference → Bool
is_of_triple t row = symbol_eq row.wish.id t.id && (symbol_eq row.wish.attr t.attr && symbol_eq row.wish.value t.value)

abbrev pub without_triple : List Preference → Triple → List Preference
without_triple rows t = filter (λ row. not (is_of_triple t row)) rows

-- the row was added, or is there already and so counts as added
pub record AddsRow (old new : PreferenceMemory) (row : Preference) : Type 0 where
  pub rows : new ≡ record old { rows = with_row old.rows row }
  pub room : is_kept_already old.rows row ≡ false → length old.rows < old.limit

-- Full comes exactly where the row would be kept and the limit is reached; only want of memory is free
abbrev pub Adds : PreferenceMemory → PreferenceMemory → Preference → Result (Unit {0}) PrefFault → Type 0
Adds old new row (Ok done) = AddsRow old new row
Adds old new row (Err fault.Full) = (is_kept_already old.rows row ≡ false) × (old.limit ≤ length old.rows)
Adds old new row (Err fault.NoMemory) = Unit {0}

-- ---- changes

-- some triple of the list is this one, marks apart
abbrev pub has_plain : List Triple → Triple → Bool
has_plain triples t = list_any (has_value t.id t.attr t.value) triples

-- each triple that is not among these, marks apart, has the same rows, in the same order
abbrev pub CoversRows : List Triple → List Preference → List Preference → Type 0
CoversRows triples old new = (t : Triple) → has_plain triples t ≡ false → of_value t.id t.attr t.value old ≡ of_value t.id t.attr t.value new

-- whether rows hold a triple up: a goal's candidate marked, by an acceptable or a require row; any other triple unmarked, by an acceptable row where none rejects it
abbrev pub hold_up : Bool → List Preference → Triple → Bool
hold_up operator rows t =
    if operator
    then t.accept && (has_row kind.Accept rows t || has_row kind.Require rows t)
    else not t.accept && (has_row kind.Accept rows t && not (has_row kind.Reject rows t))
