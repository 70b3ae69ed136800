-- What the memory of a node holds.
use Rattle.std.specs.Prelude.{◌≡◌, ◌↔◌, filter, unwrap_or, if◌then◌else◌, ℕ, Bool, List, [], ◌∷◌, map, Option, Some, None}
use Rattle.std.specs.Ordering.{nat_cmp, is_le, is_eq}
use Rattle.std.specs.Cmp.Lexicographic.{slice_cmp}
use Rattle.defs_match.specs.Laws.{IsIn}
use Rattle.defs_match.specs.Rows.{Row}
use Rattle.defs_match.specs.Testing.{Bindings, symbol_of}
use Rattle.soar_sym.specs.declared.symbol.Sym.{Sym}
use Rattle.node_memory.specs.declared.symbols.Joined.{Joined}
use Rattle.node_memory.specs.declared.symbols.Symbols.{Symbols}
use Rattle.node_memory.specs.declared.symbols.SymbolKey.{SymbolKey}

-- what a map of rows finds at a list of tags
abbrev pub Found : Type 0
Found = List ℕ → Option Bindings

-- the map finds the row
abbrev pub has : Found → Row → Type 0
has found r = found r.tags ≡ Some r.bindings

-- what a variable, if there is one, stands for
abbrev pub symbol_in : Option ℕ → Bindings → Option Sym
symbol_in None bs = None
symbol_in (Some v) bs = symbol_of v bs

-- what the variables stand for
abbrev pub symbols_in : Joined → Bindings → Symbols
symbols_in j bs = record { id = symbol_in j.id bs; value = symbol_in j.value bs }

-- the key of a row for variables
abbrev pub key_for : Joined → Row → SymbolKey
key_for j r = record { joined = j; symbols = symbols_in j r.bindings; tags = r.tags }

-- its keys for all these variables
abbrev pub keys_for : List Joined → Row → List SymbolKey
keys_for js r = map (λ j. key_for j r) js

-- the keys of all rows for all these variables, and no others
abbrev pub IsIndexed : List Joined → Found → List SymbolKey → Type 0
IsIndexed js found keys = (k : SymbolKey) → IsIn k keys ↔ ((r : Row) × has found r × IsIn k (keys_for js r))

-- the row of these tags, where it is found
abbrev pub row_found : List ℕ → Option Bindings → List Row
row_found t None = []
row_found t (Some bs) = record { tags = t; bindings = bs } ∷ []

-- the rows of a map
abbrev pub row_at : (List ℕ) × Bindings → Row
row_at e = record { tags = e.0; bindings = e.1 }

abbrev pub rows_in : List ((List ℕ) × Bindings) → List Row
rows_in es = map row_at es

abbrev pub same_tags : List ℕ → List ℕ → Bool
same_tags t q = is_eq (slice_cmp nat_cmp t q)

-- a row more, unless one with its tags is there
abbrev pub put_at : Row → Found → Found
put_at r found q = if same_tags r.tags q then Some (unwrap_or (found q) r.bindings) else found q

-- a row less
abbrev pub taken_at : List ℕ → Found → Found
taken_at t found q = if same_tags t q then None else found q

-- one after another
abbrev pub puts : List Row → Found → Found
puts [] found = found
puts (r ∷ rs) found = puts rs (put_at r found)

abbrev pub takens : List (List ℕ) → Found → Found
takens [] found = found
takens (t ∷ ts) found = takens ts (taken_at t found)

-- the entries that are not below these tags
abbrev pub entries_not_below : List ℕ → List ((List ℕ) × Bindings) → List ((List ℕ) × Bindings)
entries_not_below t es = filter (λ (e : (List ℕ) × Bindings). is_le (slice_cmp nat_cmp t e.0)) es
