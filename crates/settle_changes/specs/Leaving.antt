-- Inputs and rows that leave identifier by identifier. No public clause cites this.
use Rattle.std.specs.Prelude.{not, List, [], ◌∷◌, ◌++◌, filter}
use Rattle.soar_sym.specs.Equality.{symbol_eq}
use Rattle.soar_sym.specs.declared.symbol.Sym.{Sym}
use Rattle.soar_sym.specs.declared.symbol.Triple.{Triple}
use Rattle.defs_soar.specs.declared.preference.Preference.{Preference}
use Rattle.defs_soar.specs.Preferences.{without_id}

-- inputs without those of these identifiers
abbrev pub inputs_without : List Triple → List Sym → List Triple
inputs_without inputs [] = inputs
inputs_without inputs (id ∷ ids) = inputs_without (filter (λ t. not (symbol_eq t.id id)) inputs) ids

-- those that go
abbrev pub inputs_gone : List Triple → List Sym → List Triple
inputs_gone inputs [] = []
inputs_gone inputs (id ∷ ids) = filter (λ t. symbol_eq t.id id) inputs ++ inputs_gone (filter (λ t. not (symbol_eq t.id id)) inputs) ids

-- rows without those of these identifiers
abbrev pub rows_without : List Preference → List Sym → List Preference
rows_without rows [] = rows
rows_without rows (id ∷ ids) = rows_without (without_id rows id) ids
