-- The values and the referents of known rows.
use Rattle.std.proofs.Common.{[], ◌∷◌, Option, Some, None}
use Rattle.soar_sym.specs.Words.{Texts}
use Rattle.soar_sym.specs.declared.symbol.Sym.{Sym}
use Rattle.soar_rule.specs.Symbols.{AreKnown}
use Rattle.defs_soar.specs.Dependencies.{symbols_of_referent}
use Rattle.soar_choose.specs.Rows.{IsReferentKnown}
use Rattle.row_laws.specs.Known.{KnownRowsAreKnown}

referent_known : (words : Texts) (referent : Option Sym) → AreKnown words (symbols_of_referent referent) → IsReferentKnown words referent
referent_known words None h = tt
referent_known words (Some s) h = h.0

pub known_rows_are_known : KnownRowsAreKnown
known_rows_are_known words [] h = tt
known_rows_are_known words (row ∷ rows) h = (h.0.1.1.0, referent_known words row.wish.referent h.0.1.1.1, known_rows_are_known words rows h.1)
