-- Symbols whose words are in the table.
use Rattle.std.specs.Prelude.{◌≤◌, List}
use Rattle.soar_sym.specs.Words.{Texts}
use Rattle.soar_sym.specs.declared.symbol.Sym.{Sym}
use Rattle.soar_sym.specs.declared.symbol.Sym.TheVariants.{Ident, Word, Int}
use Rattle.soar_rule.specs.Symbols.{AreKnown}

-- `AreKnown` as a record, which lemmas take
pub record Knows (words : Texts) (symbols : List Sym) : Type 0 where
  pub are_known : AreKnown words symbols

-- a symbol with a text without bars: an identifier's letter is one of ASCII
abbrev pub HasBareText : Sym → Type 0
HasBareText (Ident letter number) = letter ≤ 90
HasBareText (Word n) = Unit {0}
HasBareText (Int value) = Unit {0}
