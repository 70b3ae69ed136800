-- Symbols as numbers with a kind.
use Rattle.std.specs.Prelude.{◌≡◌, ◌+◌, ◌*◌, ◌/◌, ◌%◌, ℤ, pos, Bool, true, false, unsigned_abs}
use Rattle.std.proofs.Common.{refl}
use Rattle.soar_sym.specs.declared.symbol.Sym.{Sym}
use Rattle.soar_sym.specs.declared.symbol.Sym.TheVariants.{Ident, Word, Int}
use Rattle.soar_sym.specs.declared.symbol.Triple.{Triple}
use Rattle.packed_triples.specs.declared.symbol.Kind.{Kind}
use Rattle.packed_triples.specs.declared.symbol.Kind.TheVariants.{Identifier, Name, Integer}

abbrev pub kind_of : Sym → Kind
kind_of (Ident letter number) = Identifier
kind_of (Word word) = Name
kind_of (Int value) = Integer

-- the symbol of a kind and a number
abbrev pub symbol_at : Kind → ℤ → Sym
symbol_at Identifier number = Ident (unsigned_abs number / 4294967296 % 256) (unsigned_abs number % 4294967296)
symbol_at Name number = Word (unsigned_abs number % 4294967296)
symbol_at Integer number = Int number

-- the number of a symbol, which tells it from all others of its kind
abbrev pub number_of : Sym → ℤ
number_of (Ident letter number) = pos (letter * 4294967296 + number)
number_of (Word word) = pos word
number_of (Int value) = value

-- the number is that of its symbol
abbrev pub IsExact : Kind → ℤ → Type 0
IsExact kind number = number_of (symbol_at kind number) ≡ number

pub kind_exact : (kind : Kind) (number : ℤ) → kind_of (symbol_at kind number) ≡ kind
kind_exact Identifier number = refl
kind_exact Name number = refl
kind_exact Integer number = refl

abbrev pub kind_eq : Kind → Kind → Bool
kind_eq Identifier Identifier = true
kind_eq Name Name = true
kind_eq Integer Integer = true
kind_eq a b = false

abbrev pub triple_with : Sym → Sym → Sym → Bool → Triple
triple_with id attr value accept = record { id = id; attr = attr; value = value; accept = accept }
