-- What rows tell, found in sets and maps. No public clause cites this module.
use Rattle.std.specs.Prelude.{Bool, true, false, ◌&&◌, ◌||◌, not, ℤ, pos, List, [], ◌∷◌, filter, Option, Some, None, if◌then◌else◌}
use Rattle.std.specs.List.{list_any, list_all}
use Rattle.soar_sym.specs.Equality.{symbol_eq}
use Rattle.soar_sym.specs.declared.symbol.Sym.{Sym}
use Rattle.defs_soar.specs.declared.preference.PrefKind.{PrefKind}
use Rattle.defs_soar.specs.declared.preference.PrefKind.TheVariants as kind
use Rattle.defs_soar.specs.declared.preference.Preference.{Preference}
use Rattle.defs_soar.specs.declared.choice.Scored.{Scored}
use Rattle.defs_soar.specs.Sorted.{has_symbol}

-- ---- sums

abbrev pub sum_at : List (Sym × ℤ) → Sym → ℤ
sum_at [] s = pos 0
sum_at (e ∷ sums) s = if symbol_eq s e.0 then e.1 else sum_at sums s

-- a value with its sum, where these have numbers and these are the sums
abbrev pub scored_by : List Sym → List (Sym × ℤ) → Sym → Scored
scored_by numeric sums value = record { value = value; numeric = has_symbol numeric value; sum = sum_at sums value }

-- ---- better and worse

-- the better and the worse value
abbrev pub better_in : PrefKind → Sym → Option Sym → Option (Sym × Sym)
better_in kind.Better value (Some worse) = Some (value, worse)
better_in kind.Worse value (Some better) = Some (better, value)
better_in k value referent = None

abbrev pub beats_in : List Sym → Sym → Option (Sym × Sym) → Bool
beats_in candidates s None = false
beats_in candidates s (Some pair) = (has_symbol candidates pair.0 && not (symbol_eq pair.0 pair.1)) && symbol_eq s pair.1

-- the row says that a candidate is better than a value
abbrev pub beats_in_row : List Sym → Sym → Preference → Bool
beats_in_row candidates s row = beats_in candidates s (better_in row.wish.kind row.wish.value row.wish.referent)

-- ---- indifference

abbrev pub has_pair : List (Sym × Sym) → Sym → Sym → Bool
has_pair pairs a b = list_any (λ p. symbol_eq p.0 a && symbol_eq p.1 b) pairs

abbrev pub is_paired : List (Sym × Sym) → Sym → Sym → Bool
is_paired pairs a b = has_pair pairs a b || has_pair pairs b a

-- those that are not indifferent alone
abbrev pub not_alone : List Sym → List Sym → List Sym
not_alone alone values = filter (λ v. not (has_symbol alone v)) values

-- every two of them are indifferent alone or make a pair
abbrev pub all_told : List Sym → List (Sym × Sym) → List Sym → Bool
all_told alone pairs [] = true
all_told alone pairs (a ∷ values) =
    list_all (is_paired pairs a) (if has_symbol alone a then not_alone alone values else values) && all_told alone pairs values
