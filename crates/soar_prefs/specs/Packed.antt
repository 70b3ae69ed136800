-- A row of symbols, of a referent that can be absent, and of marks.
use Rattle.std.specs.Prelude.{ℕ, ℤ, Bool, Option, Some, None}
use Rattle.soar_sym.specs.declared.symbol.Sym.{Sym}
use Rattle.packed_triples.specs.declared.symbol.Kind.{Kind}
use Rattle.packed_triples.specs.Packed.{kind_of, symbol_at}
use Rattle.defs_soar.specs.declared.preference.PrefKind.{PrefKind}
use Rattle.defs_soar.specs.declared.preference.Preference.{Preference}

abbrev pub referent_kind : Option Sym → Option Kind
referent_kind None = None
referent_kind (Some symbol) = Some (kind_of symbol)

-- the referent of a kind and a number
abbrev pub referent_at : Option Kind → ℤ → Option Sym
referent_at None number = None
referent_at (Some kind) number = Some (symbol_at kind number)

abbrev pub preference_with : ℕ → Sym → Sym → Sym → PrefKind → Option Sym → Bool → Preference
preference_with firing id attr value kind referent operator_support = record {
  firing = firing;
  wish = record { id = id; attr = attr; value = value; kind = kind; referent = referent };
  operator_support = operator_support;
}
