-- The rows of preference memory after a wave.
use Rattle.std.specs.Prelude.{◌≡◌, ℕ, ◌<◌, ◌≤◌, false, not, List, filter, length, Result, Ok, Err}
use Rattle.soar_sym.specs.declared.symbol.Triple.{Triple}
use Rattle.defs_soar.specs.declared.limit.Which.TheVariants as which
use Rattle.defs_soar.specs.declared.preference.Preference.{Preference}
use Rattle.defs_soar.specs.Preferences.{with_rows, without_firings, is_rejected_by, rows_after}
use Rattle.soar_prefs.specs.Memory.{PreferenceMemory}
use Rattle.soar_settle.specs.declared.stop.Stop.{Stop}
use Rattle.soar_settle.specs.declared.stop.Stop.TheVariants as stop

-- without the mark
abbrev pub triple_in : Preference → Triple
triple_in row = record { id = row.wish.id; attr = row.wish.attr; value = row.wish.value; accept = false }

abbrev pub not_rejected : List Preference → List Preference → List Preference
not_rejected made rows = filter (λ row. not (is_rejected_by made row)) rows

-- these rows were added, and there was room
pub record AddsRows (old new : PreferenceMemory) (made : List Preference) : Type 0 where
  pub rows : new ≡ record old { rows = with_rows old.rows made }
  pub room : length (with_rows old.rows made) ≤ old.limit

-- each answer, exactly where it comes; only want of memory is free
abbrev pub AddsAll : PreferenceMemory → PreferenceMemory → List Preference → Result (Unit {0}) Stop → Type 0
AddsAll old new made (Ok done) = AddsRows old new made
AddsAll old new made (Err (stop.Limit limit)) = (limit ≡ which.Preferences) × (old.limit < length (with_rows old.rows made))
AddsAll old new made (Err stop.NoMemory) = Unit {0}

-- the rows of the firings that left are gone, those that were made are there, and what these reject is gone
pub record RenewsRows (old new : PreferenceMemory) (gone : List ℕ) (made : List Preference) : Type 0 where
  pub rows : new ≡ record old { rows = rows_after old.rows gone made }
  pub room : length (with_rows (without_firings old.rows gone) made) ≤ old.limit

abbrev pub Renews : PreferenceMemory → PreferenceMemory → List ℕ → List Preference → Result (List Preference) Stop → Type 0
Renews old new gone made (Ok added) = RenewsRows old new gone made
Renews old new gone made (Err (stop.Limit limit)) = (limit ≡ which.Preferences) × (old.limit < length (with_rows (without_firings old.rows gone) made))
Renews old new gone made (Err stop.NoMemory) = Unit {0}
