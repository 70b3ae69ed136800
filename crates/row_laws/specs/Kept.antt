-- What changes rows leaves them in range.
use Rattle.std.specs.Prelude.{ℕ, List, ◌++◌}
use Rattle.soar_sym.specs.declared.symbol.Sym.{Sym}
use Rattle.defs_soar.specs.declared.goal.Goal.{Goal}
use Rattle.defs_soar.specs.declared.preference.Preference.{Preference}
use Rattle.defs_soar.specs.Preferences.{rows_after, with_rows, without_firings, without_id}
use Rattle.defs_soar.specs.Settling.{Supports, settled}
use Rattle.soar_choose.specs.Rows.{AreInRange}

-- ---- more rows

-- the rows of several firings, one list after the other
abbrev pub JoinedKeepRange : Type 0
JoinedKeepRange = (rows more : List Preference) → AreInRange rows → AreInRange more → AreInRange (rows ++ more)

-- rows that are added where they are not kept already
abbrev pub AddedKeepRange : Type 0
AddedKeepRange = (rows made : List Preference) → AreInRange rows → AreInRange made → AreInRange (with_rows rows made)

-- ---- fewer rows

-- firings are retracted
abbrev pub RetractedKeepRange : Type 0
RetractedKeepRange = (rows : List Preference) (gone : List ℕ) → AreInRange rows → AreInRange (without_firings rows gone)

-- an identifier goes
abbrev pub DroppedKeepRange : Type 0
DroppedKeepRange = (rows : List Preference) (id : Sym) → AreInRange rows → AreInRange (without_id rows id)

-- all has settled
abbrev pub SettledKeepRange : Type 0
SettledKeepRange = (goals : List Goal) (s : Supports) → AreInRange s.rows → AreInRange (settled goals s).rows

-- ---- both

-- a wave, in which firings left and rows were made
abbrev pub WaveKeepsRange : Type 0
WaveKeepsRange = (rows : List Preference) (gone : List ℕ) (made : List Preference) → AreInRange rows → AreInRange made → AreInRange (rows_after rows gone made)
