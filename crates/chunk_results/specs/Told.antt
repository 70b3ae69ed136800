-- Results, and what hangs on a firing's own, by the levels that are told: how the code goes, cited by no public clause.
use Rattle.std.specs.Prelude.{ℕ, Bool, false, ◌&&◌, ◌||◌, ◌==◌, not, List, [], map, flat_map, filter, Option, Some, None}
use Rattle.soar_sym.specs.declared.symbol.Sym.{Sym}
use Rattle.defs_soar.specs.declared.goal.Goal.{Goal}
use Rattle.defs_soar.specs.declared.preference.PrefKind.TheVariants as kind
use Rattle.defs_soar.specs.declared.preference.Preference.{Preference}
use Rattle.defs_soar.specs.declared.preference.Wish.{Wish}
use Rattle.defs_soar.specs.Dependencies.{is_new_in}
use Rattle.defs_soar.specs.Goals.{is_goal}
use Rattle.defs_soar.specs.History.{FiringOf}
use Rattle.defs_soar.specs.Results.{named_by, result_row, with_each_symbol}
use Rattle.defs_soar.specs.Sorted.{has_symbol}
use Rattle.defs_soar.specs.Uses.{is_above}
use Rattle.defs_soar.specs.Values.{is_identifier, is_kind}

-- what is told of each symbol's level
abbrev pub Told : Type 0
Told = Sym → Option ℕ

abbrev pub is_told_result : Told → ℕ → Wish → Bool
is_told_result told depth w = is_above (told w.id) depth

abbrev pub is_told_at : Option ℕ → ℕ → Bool
is_told_at o depth = elim o [ Some n ↦ n == depth | None ↦ false ]

-- told to be of the firing's level, or new in it, and no goal
abbrev pub hangs_as_told : Told → List Goal → FiringOf → Sym → Bool
hangs_as_told told goals f s = is_identifier s && (not (is_goal goals s) && (is_told_at (told s) f.depth || is_new_in f s))

-- the wishes for higher identifiers, as rows
abbrev pub rows_as_told : Told → FiringOf → List Preference
rows_as_told told f = map (result_row f) (filter (is_told_result told f.depth) f.made)

-- the identifiers that hang on wishes themselves
abbrev pub first_held : (Sym → Bool) → List Wish → List Sym
first_held hangs wishes = with_each_symbol [] (filter hangs (flat_map named_by wishes))

-- a result, or an acceptable wish for one of these
abbrev pub goes_as_told : Told → ℕ → List Sym → Wish → Bool
goes_as_told told depth ids w = is_told_result told depth w || (is_kind w.kind kind.Accept && has_symbol ids w.id)
