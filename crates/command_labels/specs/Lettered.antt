-- Identifiers that a label may stand for.
use Rattle.std.specs.Prelude.{Bool, false}
use Rattle.soar_sym.specs.declared.symbol.Sym.{Sym}
use Rattle.soar_sym.specs.declared.symbol.Sym.TheVariants.{Ident, Word, Int}
use Rattle.defs_text.specs.Bytes.{is_capital}

-- an identifier whose letter is one from A to Z
abbrev pub is_lettered : Sym → Bool
is_lettered (Ident letter number) = is_capital letter
is_lettered (Word word) = false
is_lettered (Int value) = false
