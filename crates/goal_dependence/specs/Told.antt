-- What levels tell, as they are answered: how the code goes, cited by no public clause.
use Rattle.std.specs.Prelude.{ℕ, Bool, true, false, ◌&&◌, ◌||◌, ◌==◌, nat_lt, Option, Some, None}
use Rattle.soar_sym.specs.declared.symbol.Sym.{Sym}
use Rattle.defs_soar.specs.declared.preference.Preference.{Preference}
use Rattle.defs_soar.specs.Dependencies.{is_new_in}
use Rattle.defs_soar.specs.History.{FiringOf}

-- the level of a symbol, or none
abbrev pub Told : Type 0
Told = Sym → Option ℕ

abbrev pub was_told_at : Told → ℕ → Sym → Bool
was_told_at told depth s = elim (told s) [ Some n ↦ n == depth | None ↦ false ]

abbrev pub was_told_below : Told → ℕ → Sym → Bool
was_told_below told depth s = elim (told s) [ Some n ↦ nat_lt n depth | None ↦ true ]

-- told to be of the level, or new in the firing
abbrev pub is_told_local : Told → ℕ → FiringOf → Sym → Bool
is_told_local told depth f s = was_told_at told depth s || is_new_in f s

-- an operator-supported row of the firing
abbrev pub lasts_by : ℕ → Preference → Bool
lasts_by number row = (row.firing == number) && row.operator_support
