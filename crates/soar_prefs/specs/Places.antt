-- Keys of one kind, each with numbers. No public clause cites this.
use Rattle.std.specs.Prelude.{◌≡◌, ℕ, ◌-◌, ◌^◌, Bool, cond, List, [], ◌∷◌, is_some}
use Rattle.std.specs.BTreeMap.Range.{entries_between, range_contains}
use Rattle.std.specs.Map.{lookup}
use Rattle.std.specs.Ordering.{is_eq, bool_cmp, nat_cmp, ordering_then}
use Rattle.std.specs.declared.cmp.Ordering.{Ordering}
use Rattle.std.specs.declared.ops.Bound.TheVariants.{Included}
use Rattle.soar_sym.specs.contracts.symbol.SymOrd.TheImpl as sym_order
use Rattle.soar_sym.specs.declared.symbol.Sym.{Sym}

-- keys with numbers, as a map keeps them
abbrev pub Places : Type 0 → Type 0
Places K = List ((K × ℕ) × Unit {0})

abbrev pub place_cmp : {K : Type 0} → (K → K → Ordering) → K × ℕ → K × ℕ → Ordering
place_cmp cmp p q = ordering_then (cmp p.0 q.0) (nat_cmp p.1 q.1)

-- whether the number stands under the key
abbrev pub stands : {K : Type 0} → (K → K → Ordering) → Places K → K × ℕ → Bool
stands cmp places q = is_some (lookup (λ k. is_eq (place_cmp cmp q k)) places)

-- at the place stands this now, and at others what stood there
abbrev pub Writes : {K : Type 0} → (K → K → Ordering) → K × ℕ → Bool → Places K → Places K → Type 0
Writes {K} cmp p now old new = (q : K × ℕ) → stands cmp new q ≡ cond (is_eq (place_cmp cmp p q)) now (stands cmp old q)

-- the part of a key
abbrev pub of_key : {K : Type 0} → (K → K → Ordering) → K → Places K → Places K
of_key cmp key places = entries_between (place_cmp cmp) (Included (key, 0)) (Included (key, 2 ^ 64 - 1)) places

-- the place is of the key
abbrev pub is_of_key : {K : Type 0} → (K → K → Ordering) → K → K × ℕ → Bool
is_of_key cmp key q = range_contains (place_cmp cmp) (Included (key, 0)) (Included (key, 2 ^ 64 - 1)) q

-- the longest front of places of the key
abbrev pub front_of : {K : Type 0} → (K → K → Ordering) → K → Places K → Places K
front_of cmp key [] = []
front_of cmp key (e ∷ es) = cond (is_of_key cmp key e.0) (e ∷ front_of cmp key es) []

-- ---- the kinds of keys

-- whether rows have operator support, and their firing
abbrev pub firing_cmp : Bool × ℕ → Bool × ℕ → Ordering
firing_cmp a b = ordering_then (bool_cmp a.0 b.0) (nat_cmp a.1 b.1)

abbrev pub sym_cmp : Sym → Sym → Ordering
sym_cmp = sym_order.ghosts.cmp

-- identifier and attribute
abbrev pub slot_cmp : Sym × Sym → Sym × Sym → Ordering
slot_cmp a b = ordering_then (sym_cmp a.0 b.0) (sym_cmp a.1 b.1)

-- identifier, attribute and value
abbrev pub triple_cmp : Sym × Sym × Sym → Sym × Sym × Sym → Ordering
triple_cmp a b = ordering_then (ordering_then (sym_cmp a.0 b.0) (sym_cmp a.1 b.1)) (sym_cmp a.2 b.2)
