-- The place of a row among rows in order of triple: how the code goes, cited by no public clause.
use Rattle.std.specs.Prelude.{Bool, ◌&&◌, not, nat_lt, List, [], ◌∷◌, if◌then◌else◌}
use Rattle.std.specs.Ordering.{is_lt}
use Rattle.soar_sym.specs.Order.{triple_cmp}
use Rattle.soar_sym.specs.Words.{Texts}
use Rattle.defs_soar.specs.declared.preference.Preference.{Preference}
use Rattle.defs_soar.specs.Results.{row_triple}
use Rattle.defs_soar.specs.Values.{same_triple}

-- a row's place is behind another
abbrev pub is_behind : Texts → Preference → Preference → Bool
is_behind words row other = not (same_triple row other) && not (is_lt (triple_cmp words (row_triple row) (row_triple other)))

abbrev pub lesser_maker : Preference → Preference → Preference
lesser_maker row other = if nat_lt row.firing other.firing then row else other

-- a row at its place before these
abbrev pub put_row : Preference → List Preference → List Preference
put_row row [] = row ∷ []
put_row row (other ∷ rows) = if same_triple row other then lesser_maker row other ∷ rows else row ∷ other ∷ rows
