-- The identifiers that acceptable rows lead to, from some on: how the code goes, cited by no public clause.
use Rattle.std.specs.Prelude.{◌≡◌, ◌≤◌, ℕ, Bool, true, ◌&&◌, List, take, length, flat_map, filter}
use Rattle.std.specs.List.{list_any}
use Rattle.soar_sym.specs.Equality.{symbol_eq}
use Rattle.soar_sym.specs.declared.symbol.Sym.{Sym}
use Rattle.soar_rule.specs.Repeat.{until_same}
use Rattle.defs_soar.specs.declared.goal.Goal.{Goal}
use Rattle.defs_soar.specs.declared.preference.PrefKind.TheVariants as kind
use Rattle.defs_soar.specs.declared.preference.Preference.{Preference}
use Rattle.defs_soar.specs.History.{FiringOf}
use Rattle.defs_soar.specs.Levels.{same_length}
use Rattle.defs_soar.specs.Results.{accepted_for, named_by, with_each_symbol}
use Rattle.defs_soar.specs.Sorted.{has_symbol}
use Rattle.defs_soar.specs.Values.{is_identifier, is_kind}
use Rattle.chunk_results.specs.Told.{Told, first_held, hangs_as_told, is_told_result}

-- ---- the rounds of the definition, by a test of what hangs

abbrev pub named_from : List Preference → List Sym → List Sym
named_from rows ids = flat_map (λ row. named_by row.wish) (accepted_for rows ids)

abbrev pub held_more : (Sym → Bool) → List Preference → List Sym → List Sym
held_more hangs rows ids = with_each_symbol ids (filter hangs (named_from rows ids))

unfoldable pub held_from : (Sym → Bool) → List Preference → List Sym → List Sym
held_from hangs rows first = until_same same_length (length rows) (held_more hangs rows) first

-- what hangs on the results of a firing, by the levels that are told
abbrev pub held_as_told : Told → List Goal → FiringOf → List Preference → List Sym
held_as_told told goals f rows = held_from (hangs_as_told told goals f) rows (first_held (hangs_as_told told goals f) (filter (is_told_result told f.depth) f.made))

-- ---- links

-- an acceptable row leads from its identifier to another
abbrev pub row_leads : Preference → Sym → Sym → Bool
row_leads row x y = is_kind row.wish.kind kind.Accept && (symbol_eq x row.wish.id && (has_symbol (named_by row.wish) y && is_identifier y))

abbrev pub leads : List Preference → Sym → Sym → Bool
leads rows x y = list_any (λ row. row_leads row x y) rows

-- which symbols are linked
abbrev pub Links : Type 0
Links = Sym → Sym → Bool

-- ---- a walk along the links

-- two lists have the same symbols
abbrev pub AreSame : List Sym → List Sym → Type 0
AreSame xs ys = (s : Sym) → has_symbol xs s ≡ has_symbol ys s

abbrev pub Grows : List Sym → List Sym → Type 0
Grows old new = (s : Sym) → has_symbol old s ≡ true → has_symbol new s ≡ true

-- whatever has the first ones, and what hangs on its own, has all
abbrev pub AreLed : (Sym → Bool) → Links → List Sym → List Sym → Type 0
AreLed hangs links first order =
    (p : Sym → Bool) → ((s : Sym) → has_symbol first s ≡ true → p s ≡ true) → ((x y : Sym) → p x ≡ true → links x y ≡ true → hangs y ≡ true → p y ≡ true)
    → (s : Sym) → has_symbol order s ≡ true → p s ≡ true

-- what hangs on the ones up to a place is there
abbrev pub AreClosedTo : (Sym → Bool) → Links → ℕ → List Sym → Type 0
AreClosedTo hangs links at order = (x y : Sym) → has_symbol (take at order) x ≡ true → links x y ≡ true → hangs y ≡ true → has_symbol order y ≡ true

-- the identifiers that were found, and how many of them were gone on from
pub record Walk (hangs : Sym → Bool) (links : Links) (first : List Sym) (order : List Sym) (at : ℕ) : Type 0 where
  pub within : at ≤ length order
  pub grows : Grows first order
  pub led : AreLed hangs links first order
  pub closed : AreClosedTo hangs links at order
