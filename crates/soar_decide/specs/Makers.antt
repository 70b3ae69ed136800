-- The least firing that made the marked element of an operator, found over the rows of the operator slot. No public clause cites this module.
use Rattle.std.specs.Prelude.{ℕ, Bool, ◌&&◌, ◌||◌, min, List, [], ◌∷◌, Option, Some, None, if◌then◌else◌}
use Rattle.soar_sym.specs.Equality.{symbol_eq}
use Rattle.soar_sym.specs.declared.symbol.Sym.{Sym}
use Rattle.defs_soar.specs.declared.preference.PrefKind.TheVariants as kind
use Rattle.defs_soar.specs.declared.preference.Preference.{Preference}
use Rattle.defs_soar.specs.Values.{is_kind}

-- the row is acceptable or required, and of the operator
abbrev pub makes_marked : Sym → Preference → Bool
makes_marked operator row = symbol_eq row.wish.value operator && (is_kind row.wish.kind kind.Accept || is_kind row.wish.kind kind.Require)

abbrev pub lesser : Option ℕ → ℕ → ℕ
lesser None n = n
lesser (Some m) n = min m n

-- the least of the one found before and of those that these rows name
abbrev pub least_maker_from : Option ℕ → Sym → List Preference → Option ℕ
least_maker_from found operator [] = found
least_maker_from found operator (row ∷ rows) = least_maker_from (if makes_marked operator row then Some (lesser found row.firing) else found) operator rows

abbrev pub number_found : Option ℕ → ℕ
number_found None = 0
number_found (Some n) = n

-- the least of all, 0 without one
abbrev pub least_maker : Sym → List Preference → ℕ
least_maker operator rows = number_found (least_maker_from None operator rows)
