-- A triple as the index keeps it, in numbers. No public clause cites this.
use Rattle.std.specs.Prelude.{◌≡◌, ℕ, ◌==◌, pos, false, cond}
use Rattle.soar_sym.specs.declared.symbol.Sym.{Sym}
use Rattle.soar_sym.specs.declared.symbol.Triple.{Triple}
use Rattle.packed_triples.specs.declared.symbol.Kind.{Kind}
use Rattle.packed_triples.specs.declared.symbol.Kind.TheVariants.{Identifier, Name, Integer}
use Rattle.packed_triples.specs.Packed.{kind_of, number_of, symbol_at, triple_with}
use Rattle.input_memory.specs.declared.place.Place.{Place}

abbrev pub kind_number : Kind → ℕ
kind_number Identifier = 1
kind_number Name = 2
kind_number Integer = 3

abbrev pub kind_at : ℕ → Kind
kind_at n = cond (n == 1) Identifier (cond (n == 2) Name Integer)

unfoldable pub place_of : Triple → Place
place_of t = record {
  id = number_of t.id;
  id_kind = kind_number (kind_of t.id);
  attr_kind = kind_number (kind_of t.attr);
  attr = number_of t.attr;
  value = number_of t.value;
  value_kind = kind_number (kind_of t.value);
  accept = t.accept;
}

unfoldable pub triple_of : Place → Triple
triple_of p = triple_with (symbol_at (kind_at p.id_kind) p.id) (symbol_at (kind_at p.attr_kind) p.attr) (symbol_at (kind_at p.value_kind) p.value) p.accept

-- a place of no triple: at 0 before those of the identifier, at 4 behind them, since kinds have 1 to 3
unfoldable pub edge : Sym → ℕ → Place
edge id rank = record {
  id = number_of id;
  id_kind = kind_number (kind_of id);
  attr_kind = rank;
  attr = pos 0;
  value = pos 0;
  value_kind = 0;
  accept = false;
}

-- the number and the kind of the symbol tell it
abbrev pub IsToldSymbol : Sym → Type 0
IsToldSymbol s = symbol_at (kind_of s) (number_of s) ≡ s

-- the place of the triple tells it
abbrev pub IsTold : Triple → Type 0
IsTold t = triple_of (place_of t) ≡ t
