-- Rows that a step knows are known to a decision.
use Rattle.std.specs.Prelude.{List}
use Rattle.soar_sym.specs.Words.{Texts}
use Rattle.defs_soar.specs.declared.preference.Preference.{Preference}
use Rattle.soar_choose.specs.Rows.{AreKnown}
use Rattle.soar_settle.specs.Known.{AreRowsKnown}

-- where all symbols of the rows are known, their values and referents are
abbrev pub KnownRowsAreKnown : Type 0
KnownRowsAreKnown = (words : Texts) (rows : List Preference) → AreRowsKnown words rows → AreKnown words rows
