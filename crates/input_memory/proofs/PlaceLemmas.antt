-- What a place tells, and how it compares to those at the edges of its identifier.
use Rattle.std.proofs.Common.{◌≡◌, ℤ, pos, false, refl, sym, ap, ◌∙◌}
use Rattle.std.specs.Ordering.{nat_cmp, int_cmp, bool_cmp, ordering_then}
use Rattle.std.specs.declared.cmp.Ordering.{Ordering}
use Rattle.std.specs.declared.cmp.Ordering.TheVariants.{Less, Greater}
use Rattle.soar_sym.specs.declared.symbol.Sym.{Sym}
use Rattle.soar_sym.specs.declared.symbol.Triple.{Triple}
use Rattle.packed_triples.specs.declared.symbol.Kind.{Kind}
use Rattle.packed_triples.specs.declared.symbol.Kind.TheVariants.{Identifier, Name, Integer}
use Rattle.packed_triples.specs.Packed.{kind_of, number_of, symbol_at}
use Rattle.input_memory.specs.Order.{place_cmp}
use Rattle.input_memory.specs.Place.{edge, kind_at, kind_number, place_of, triple_of, IsTold, IsToldSymbol}

-- ---- what is told

kind_told : (k : Kind) → kind_at (kind_number k) ≡ k
kind_told Identifier = refl
kind_told Name = refl
kind_told Integer = refl

pub symbol_told : (s : Sym) → IsToldSymbol s → symbol_at (kind_at (kind_number (kind_of s))) (number_of s) ≡ s
symbol_told s told = ap (λ k. symbol_at k (number_of s)) (kind_told (kind_of s)) ∙ told

pub number_told : (s : Sym) (n : ℤ) → n ≡ number_of s → symbol_at (kind_of s) n ≡ s → IsToldSymbol s
number_told s n is told = sym (ap (symbol_at (kind_of s)) is) ∙ told

pub triple_told : (t : Triple) → IsToldSymbol t.id → IsToldSymbol t.attr → IsToldSymbol t.value → IsTold t
unfolding place_of triple_of
triple_told t id attr value = λ i. record {
  id = symbol_told t.id id i;
  attr = symbol_told t.attr attr i;
  value = symbol_told t.value value i;
  accept = t.accept;
}

-- the identifier is told alone
pub id_told : (t : Triple) → IsTold t → symbol_at (kind_at (kind_number (kind_of t.id))) (number_of t.id) ≡ t.id
unfolding place_of triple_of
id_told t told = ap (λ u. u.id) told

-- ---- places and the edges of an identifier

-- how two symbols compare, and then what is behind them
abbrev pub symbols_then : Sym → Sym → Ordering → Ordering
symbols_then a b o = ordering_then (ordering_then (int_cmp (number_of a) (number_of b)) (nat_cmp (kind_number (kind_of a)) (kind_number (kind_of b)))) o

least_kind : (k : Kind) → nat_cmp 0 (kind_number k) ≡ Less
least_kind Identifier = refl
least_kind Name = refl
least_kind Integer = refl

most_kind : (k : Kind) → nat_cmp 4 (kind_number k) ≡ Greater
most_kind Identifier = refl
most_kind Name = refl
most_kind Integer = refl

-- how the attribute and the value of an edge compare to those of a triple, where the kinds of the attributes compare so
beside : Triple → Ordering → Ordering
beside t o = ordering_then (ordering_then o (int_cmp (pos 0) (number_of t.attr))) (ordering_then (ordering_then (int_cmp (pos 0) (number_of t.value)) (nat_cmp 0 (kind_number (kind_of t.value)))) (bool_cmp false t.accept))

pub before_edge : (id : Sym) (t : Triple) → place_cmp (edge id 0) (place_of t) ≡ symbols_then id t.id Less
unfolding edge place_of beside
before_edge id t = ap (λ o. symbols_then id t.id (beside t o)) (least_kind (kind_of t.attr))

pub behind_edge : (id : Sym) (t : Triple) → place_cmp (edge id 4) (place_of t) ≡ symbols_then id t.id Greater
unfolding edge place_of beside
behind_edge id t = ap (λ o. symbols_then id t.id (beside t o)) (most_kind (kind_of t.attr))
