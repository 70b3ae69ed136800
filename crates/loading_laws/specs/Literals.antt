-- The symbols of productions that were read: words of the table and numbers.
use Rattle.std.specs.Prelude.{◌≡◌, ◌≤◌, List, ◌++◌, length, Ok}
use Rattle.soar_sym.specs.Words.{Texts}
use Rattle.soar_sym.specs.declared.symbol.Sym.{Sym}
use Rattle.soar_rule.specs.Checking.{ordered}
use Rattle.soar_rule.specs.Productions.{ProductionOf}
use Rattle.soar_rule.specs.Symbols.{constants_of}
use Rattle.defs_read.specs.Expansion.{production_of}
use Rattle.defs_read.specs.Grammar.{Tree}
use Rattle.defs_read.specs.Spelling.{Tokens}
use Rattle.defs_soar.specs.Laws.{IsIn}
use Rattle.learning_laws.specs.LawfulAgents.{IsLiteral}

-- each is a word of the table or a number
abbrev pub AreLiteral : Texts → List Sym → Type 0
AreLiteral words symbols = (s : Sym) → IsIn s symbols → IsLiteral words s

-- so are the constants of a production and the names of its variables
abbrev pub IsOfWords : Texts → ProductionOf → Type 0
IsOfWords words p = AreLiteral words (p.vars ++ constants_of p)

-- it is in match order, and of words and numbers
pub record MayBeLoaded (words : Texts) (p : ProductionOf) : Type 0 where
  pub checked : ordered p ≡ Ok p
  pub literal : IsOfWords words p

-- What is read of any tokens is of words and numbers. The words of the start are in the table, for one of them stands in each group without attributes.
abbrev pub ReadIsOfWords : Type 0
ReadIsOfWords = (words : Texts) (tokens : Tokens) (t : Tree) → 24 ≤ length words → IsOfWords (production_of words tokens t).words (production_of words tokens t).production

-- the check adds no symbol, so what it gives may be loaded
abbrev pub CheckedMayBeLoaded : Type 0
CheckedMayBeLoaded = (words : Texts) (p q : ProductionOf) → IsOfWords words p → ordered p ≡ Ok q → MayBeLoaded words q
