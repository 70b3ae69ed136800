-- The keys of an index of rows by what variables stand for.
use Rattle.std.specs.Prelude.{Bool, ◌&&◌, List, [], filter}
use Rattle.std.specs.Cmp.{IsTotalOrder, on_total, then_total}
use Rattle.std.specs.Cmp.Lexicographic.{nat_list_cmp_total, slice_cmp}
use Rattle.std.specs.Ordering.{is_le, nat_cmp, ordering_then}
use Rattle.std.specs.declared.cmp.Ordering.{Ordering}
use Rattle.node_memory.specs.declared.symbols.Joined.{Joined}
use Rattle.node_memory.specs.declared.symbols.Symbols.{Symbols}
use Rattle.node_memory.specs.declared.symbols.SymbolKey.{SymbolKey}
use Rattle.node_memory.specs.contracts.symbols.JoinedPartialEq.TheImpl as variables
use Rattle.node_memory.specs.contracts.symbols.SymbolsPartialEq.TheImpl as meanings
use Rattle.node_memory.specs.contracts.symbols.JoinedOrd.TheImpl as variable_order
use Rattle.node_memory.specs.contracts.symbols.JoinedOrd.TheImpl.Laws as variable_laws
use Rattle.node_memory.specs.contracts.symbols.SymbolsOrd.TheImpl as meaning_order
use Rattle.node_memory.specs.contracts.symbols.SymbolsOrd.TheImpl.Laws as meaning_laws
use Rattle.node_memory.specs.Sides.{side_cmp, side_total, id_side, value_side}

abbrev pub JoinedOf : Type 0
JoinedOf = Joined

abbrev pub SymbolKeyOf : Type 0
SymbolKeyOf = SymbolKey

abbrev pub joined_cmp : Joined → Joined → Ordering
joined_cmp = (variable_order.ghosts).cmp

pub joined_total : IsTotalOrder joined_cmp
joined_total = variable_laws.total-law

abbrev pub symbols_cmp : Symbols → Symbols → Ordering
symbols_cmp = (meaning_order.ghosts).cmp

pub symbols_total : IsTotalOrder symbols_cmp
symbols_total = meaning_laws.total-law

-- by variables, what they stand for, and tags
abbrev pub whole_cmp : SymbolKey → SymbolKey → Ordering
whole_cmp a b = ordering_then (joined_cmp a.joined b.joined) (ordering_then (symbols_cmp a.symbols b.symbols) (slice_cmp nat_cmp a.tags b.tags))

whole_total : IsTotalOrder whole_cmp
whole_total = then_total (on_total (λ (k : SymbolKey). k.joined) joined_total) (then_total (on_total (λ (k : SymbolKey). k.symbols) symbols_total) (on_total (λ (k : SymbolKey). k.tags) nat_list_cmp_total))

-- by the numbers of both sides, which tell the variables and what they stand for, and then by tags
abbrev pub symbol_cmp : SymbolKey → SymbolKey → Ordering
symbol_cmp a b = ordering_then (side_cmp (id_side a) (id_side b)) (ordering_then (side_cmp (value_side a) (value_side b)) (whole_cmp a b))

pub symbol_total : IsTotalOrder symbol_cmp
symbol_total = then_total (on_total id_side side_total) (then_total (on_total value_side side_total) whole_total)

abbrev pub joined_eq : Joined → Joined → Bool
joined_eq = (variables.ghosts).eq

abbrev pub symbols_eq : Symbols → Symbols → Bool
symbols_eq = (meanings.ghosts).eq

-- the key is of the variables and of what they stand for
abbrev pub is_of : Joined → Symbols → SymbolKey → Bool
is_of joined symbols key = joined_eq key.joined joined && symbols_eq key.symbols symbols

abbrev pub least_of : Joined → Symbols → SymbolKey
least_of joined symbols = record { joined = joined; symbols = symbols; tags = [] }

-- the entries that are not below a key
abbrev pub from_least : {X : Type 0} → SymbolKey → List (SymbolKey × X) → List (SymbolKey × X)
from_least {X = X} least es = filter (λ (p : SymbolKey × X). is_le (symbol_cmp least p.0)) es
