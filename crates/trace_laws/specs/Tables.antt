-- Tables that gained words at their end, and symbols as they print with them.
use Rattle.std.specs.Prelude.{◌≡◌, ◌++◌}
use Rattle.soar_sym.specs.Words.{IsKnown, Texts, with_texts}
use Rattle.soar_sym.specs.declared.symbol.Sym.{Sym}
use Rattle.defs_text.specs.Symbols.{symbol_text}

-- the second table begins with the first
abbrev pub Later : Texts → Texts → Type 0
Later first later = (more : Texts) × (later ≡ first ++ more)

-- a known symbol stays known
abbrev pub KnownStays : Type 0
KnownStays = (words later : Texts) (s : Sym) → IsKnown words s → Later words later → IsKnown later s

-- a known symbol keeps its text
abbrev pub SymbolsKeep : Type 0
SymbolsKeep = (words later : Texts) (s : Sym) → IsKnown words s → Later words later → symbol_text later s ≡ symbol_text words s

-- what is later than a later table is later
abbrev pub LaterInTurn : Type 0
LaterInTurn = (first later last : Texts) → Later first later → Later later last → Later first last

-- reading texts makes a table later
abbrev pub TablesGrow : Type 0
TablesGrow = (words texts : Texts) → Later words (with_texts words texts)
