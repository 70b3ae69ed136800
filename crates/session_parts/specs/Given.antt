-- Which identifiers were given.
use Rattle.std.specs.Prelude.{ℕ, ◌≤◌, nat_lt, Bool, true, not, List}
use Rattle.soar_sym.specs.Letters.{last_of}
use Rattle.soar_sym.specs.declared.symbol.Sym.{Sym}
use Rattle.soar_sym.specs.declared.symbol.Sym.TheVariants.{Ident, Word, Int}

-- an identifier's letter is one from A to Z
abbrev pub HasLetter : Sym → Type 0
HasLetter (Ident letter number) = (65 ≤ letter) × (letter ≤ 90)
HasLetter (Word word) = Unit {0}
HasLetter (Int value) = Unit {0}

-- whether an identifier was given, by the last numbers of the letters
abbrev pub is_given_by : List ℕ → Sym → Bool
is_given_by letters (Ident letter number) = not (nat_lt (last_of letters letter) number)
is_given_by letters (Word word) = true
is_given_by letters (Int value) = true
