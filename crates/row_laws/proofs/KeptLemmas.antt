-- Rows that are added, and rows of which some go.
use Rattle.std.proofs.Common.{◌==◌, Bool, true, false, not, cond, List, [], ◌∷◌, ◌++◌, filter}
use Rattle.soar_sym.specs.Equality.{symbol_eq}
use Rattle.defs_soar.specs.declared.preference.Preference.{Preference}
use Rattle.defs_soar.specs.Preferences.{is_kept_already, is_of_gone, is_rejected_by, with_row, with_rows, without_firings}
use Rattle.defs_soar.specs.Settling.{count_of, one_settling}
use Rattle.settling_laws.proofs.RepeatLemmas.{until_same_keeps}
use Rattle.settling_laws.proofs.SettlingLemmas.{keeps_row}
use Rattle.soar_choose.specs.Rows.{AreInRange}
use Rattle.row_laws.specs.Kept.{AddedKeepRange, DroppedKeepRange, JoinedKeepRange, RetractedKeepRange, SettledKeepRange, WaveKeepsRange}

-- ---- fewer rows

filtered : (p : Preference → Bool) (rows : List Preference) → AreInRange rows → AreInRange (filter p rows)
filtered p [] h = tt
filtered p (row ∷ rows) h = by (p row) (filtered p rows h.1)
  where
    by : (b : Bool) → AreInRange (filter p rows) → AreInRange (cond b (row ∷ filter p rows) (filter p rows))
    by true rest = (h.0, rest)
    by false rest = rest

pub retracted_keep_range : RetractedKeepRange
retracted_keep_range rows gone h = filtered (λ row. not (is_of_gone gone row)) rows h

pub dropped_keep_range : DroppedKeepRange
dropped_keep_range rows id h = filtered (λ row. not (symbol_eq row.wish.id id)) rows h

pub settled_keep_range : SettledKeepRange
settled_keep_range goals s h =
    until_same_keeps (λ a. AreInRange a.rows) (one_settling goals) (λ a b. count_of a == count_of b) (λ a k. filtered (keeps_row goals a) a.rows k) (count_of s) s h

-- ---- more rows

pub joined_keep_range : JoinedKeepRange
joined_keep_range [] more h k = k
joined_keep_range (row ∷ rows) more h k = (h.0, joined_keep_range rows more h.1 k)

row_added : (rows : List Preference) (row : Preference) → AreInRange rows → AreInRange (row ∷ []) → AreInRange (with_row rows row)
row_added rows row h k = by (is_kept_already rows row)
  where
    by : (b : Bool) → AreInRange (cond b rows (rows ++ row ∷ []))
    by true = h
    by false = joined_keep_range rows (row ∷ []) h k

pub added_keep_range : AddedKeepRange
added_keep_range rows [] h k = h
added_keep_range rows (row ∷ made) h k = added_keep_range (with_row rows row) made (row_added rows row h (k.0, tt)) k.1

-- ---- a wave

pub wave_keeps_range : WaveKeepsRange
wave_keeps_range rows gone made h k =
    filtered (λ row. not (is_rejected_by made row)) (with_rows (without_firings rows gone) made)
    (added_keep_range (without_firings rows gone) made (retracted_keep_range rows gone h) k)
