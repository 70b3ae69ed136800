-- Keys of symbols and a tag, and how they compare.
use Rattle.std.specs.Prelude.{ℕ}
use Rattle.std.specs.Ordering.{nat_cmp, ordering_then}
use Rattle.std.specs.declared.cmp.Ordering.{Ordering}
use Rattle.soar_sym.specs.contracts.symbol.SymOrd.TheImpl as symbols
use Rattle.soar_sym.specs.declared.symbol.Sym.{Sym}
use Rattle.packed_triples.specs.declared.symbol.Kind.{Kind}
use Rattle.packed_triples.specs.declared.symbol.Kind.TheVariants.{Identifier, Name, Integer}
use Rattle.node_memory.specs.declared.key.ElementKey.{ElementKey}

abbrev pub sym_cmp : Sym → Sym → Ordering
sym_cmp = (symbols.ghosts).cmp

-- the place of a kind in the order of symbols
abbrev pub rank_of : Kind → ℕ
rank_of Identifier = 0
rank_of Name = 1
rank_of Integer = 2

abbrev pub key_with : Sym → Sym → Sym → ℕ → ElementKey
key_with id attr value tag = record { id = id; attr = attr; value = value; tag = tag }

-- how keys of one identifier and one attribute compare
abbrev pub values_cmp : ElementKey → ElementKey → Ordering
values_cmp x y = ordering_then (sym_cmp x.value y.value) (nat_cmp x.tag y.tag)

-- how keys of one identifier compare
abbrev pub attributes_cmp : ElementKey → ElementKey → Ordering
attributes_cmp x y = ordering_then (sym_cmp x.attr y.attr) (values_cmp x y)
