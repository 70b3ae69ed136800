-- A variable with what it stands for, as numbers. No public clause cites this.
use Rattle.std.specs.Prelude.{◌≡◌, ℕ, ◌==◌, ℤ, pos, cond, Bool, List, Option, Some, None}
use Rattle.std.specs.Cmp.{IsTotalOrder}
use Rattle.std.specs.declared.cmp.Ordering.{Ordering}
use Rattle.soar_sym.specs.declared.symbol.Sym.{Sym}
use Rattle.packed_triples.specs.declared.symbol.Kind.{Kind}
use Rattle.packed_triples.specs.declared.symbol.Kind.TheVariants.{Identifier, Name, Integer}
use Rattle.packed_triples.specs.Packed.{kind_of, number_of, symbol_at}
use Rattle.node_memory.specs.declared.packed.Side.{Side}
use Rattle.node_memory.specs.declared.symbols.SymbolKey.{SymbolKey}
use Rattle.node_memory.specs.contracts.packed.SidePartialEq.TheImpl as equal
use Rattle.node_memory.specs.contracts.packed.SideOrd.TheImpl as ord
use Rattle.node_memory.specs.contracts.packed.SideOrd.TheImpl.Laws as laws

abbrev pub side_eq : Side → Side → Bool
side_eq = (equal.ghosts).eq

abbrev pub side_cmp : Side → Side → Ordering
side_cmp = (ord.ghosts).cmp

pub side_total : IsTotalOrder side_cmp
side_total = laws.total-law

-- 0 for none
abbrev pub variable_number : Option ℕ → ℕ
variable_number None = 0
variable_number (Some v) = v

-- 1 where there is one
abbrev pub variable_mark : Option ℕ → ℕ
variable_mark None = 0
variable_mark (Some v) = 1

abbrev pub kind_mark : Kind → ℕ
kind_mark Identifier = 1
kind_mark Name = 2
kind_mark Integer = 3

-- 0 for none
abbrev pub symbol_number : Option Sym → ℤ
symbol_number None = pos 0
symbol_number (Some s) = number_of s

-- 0 for none, and 1 to 3 by kind
abbrev pub symbol_mark : Option Sym → ℕ
symbol_mark None = 0
symbol_mark (Some s) = kind_mark (kind_of s)

abbrev pub side_of : Option ℕ → Option Sym → Side
side_of variable symbol = record { number = symbol_number symbol; variable = variable_number variable; bound = variable_mark variable; kind = symbol_mark symbol }

abbrev pub kind_at : ℕ → Kind
kind_at n = cond (n == 1) Identifier (cond (n == 2) Name Integer)

-- the variable of a side
abbrev pub variable_at : Side → Option ℕ
variable_at p = cond (p.bound == 0) None (Some p.variable)

-- what it stands for
abbrev pub meaning_at : Side → Option Sym
meaning_at p = cond (p.kind == 0) None (Some (symbol_at (kind_at p.kind) p.number))

-- the side is that of its variable and of what it stands for
abbrev pub IsSide : Side → Type 0
IsSide p = side_of (variable_at p) (meaning_at p) ≡ p

-- the key of two sides and of tags
abbrev pub key_at : Side → Side → List ℕ → SymbolKey
key_at p q tags = record { joined = record { id = variable_at p; value = variable_at q }; symbols = record { id = meaning_at p; value = meaning_at q }; tags = tags }

-- the side of the identifier in a key
abbrev pub id_side : SymbolKey → Side
id_side k = side_of k.joined.id k.symbols.id

-- the side of the value in a key
abbrev pub value_side : SymbolKey → Side
value_side k = side_of k.joined.value k.symbols.value
