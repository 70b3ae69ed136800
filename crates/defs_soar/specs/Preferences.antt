-- Preference memory: a list of rows (Soar manual, chapter 2, preference memory and support).
use Rattle.std.specs.Prelude.{ℕ, Bool, ◌&&◌, ◌==◌, not, List, [], ◌∷◌, ◌++◌, filter, if◌then◌else◌}
use Rattle.std.specs.List.{list_any}
use Rattle.soar_sym.specs.Equality.{symbol_eq}
use Rattle.soar_sym.specs.declared.symbol.Sym.{Sym}
use Rattle.defs_soar.specs.declared.preference.PrefKind.TheVariants as kind
use Rattle.defs_soar.specs.declared.preference.Preference.{Preference}
use Rattle.defs_soar.specs.declared.preference.Wish.{Wish}
use Rattle.defs_soar.specs.Values.{is_kind, wish_eq, same_triple}

-- a firing's wish as a row, with operator support or with instance support
abbrev pub as_row : ℕ → Bool → Wish → Preference
as_row firing operator_support w = record { firing = firing; wish = w; operator_support = operator_support }

-- an operator-supported row that differs in the firing alone is there already
abbrev pub is_kept_already : List Preference → Preference → Bool
is_kept_already rows row = row.operator_support && list_any (λ q. q.operator_support && wish_eq q.wish row.wish) rows

abbrev pub with_row : List Preference → Preference → List Preference
with_row rows row = if is_kept_already rows row then rows else rows ++ row ∷ []

abbrev pub with_rows : List Preference → List Preference → List Preference
with_rows rows [] = rows
with_rows rows (row ∷ more) = with_rows (with_row rows row) more

-- the instance-supported rows of a firing go with it
abbrev pub is_of_gone : List ℕ → Preference → Bool
is_of_gone gone row = not row.operator_support && list_any (λ number. number == row.firing) gone

abbrev pub without_firings : List Preference → List ℕ → List Preference
without_firings rows gone = filter (λ row. not (is_of_gone gone row)) rows

-- an operator-supported reject of this wave takes away all rows of its triple, and is not kept itself
abbrev pub is_reject_now : Preference → Bool
is_reject_now row = row.operator_support && is_kind row.wish.kind kind.Reject

abbrev pub is_rejected_by : List Preference → Preference → Bool
is_rejected_by made row = list_any (λ reject. is_reject_now reject && same_triple reject row) made

-- the rows after a wave in which these firings left and these rows were made
abbrev pub rows_after : List Preference → List ℕ → List Preference → List Preference
rows_after rows gone made = filter (λ row. not (is_rejected_by made row)) (with_rows (without_firings rows gone) made)

-- the rows of an identifier go
abbrev pub without_id : List Preference → Sym → List Preference
without_id rows id = filter (λ row. not (symbol_eq row.wish.id id)) rows

-- the rows of a slot, in order of adding
abbrev pub slot_of : List Preference → Sym → Sym → List Preference
slot_of rows id attr = filter (λ row. symbol_eq row.wish.id id && symbol_eq row.wish.attr attr) rows
