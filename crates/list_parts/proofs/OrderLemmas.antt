-- Rows whose words are in the table, in order and of a slot.
use Rattle.std.proofs.Common.{ℕ, ◌<◌, zero, suc, Bool, true, false, cond, List, [], ◌∷◌, length, drop, get_or, filter, subst}
use Rattle.std.specs.Ordering.{is_lt}
use Rattle.std.proofs.lemmas.List.{drop_more}
use Rattle.soar_sym.specs.Words.{Texts}
use Rattle.soar_rule.specs.Symbols.{AreKnown}
use Rattle.defs_soar.specs.declared.preference.Preference.{Preference}
use Rattle.defs_soar.specs.Dependencies.{symbols_of_wish}
use Rattle.defs_run.specs.Listing.{row_cmp, rows_in_order, with_row_at}
use Rattle.soar_settle.specs.Known.{AreRowsKnown}

known_after : (words : Texts) (i : ℕ) (rows : List Preference) → AreRowsKnown words rows → AreRowsKnown words (drop i rows)
known_after words zero rows k = k
known_after words (suc i) [] k = tt
known_after words (suc i) (row ∷ rows) k = known_after words i rows k.1

pub known_at : (words : Texts) (rows : List Preference) (i : ℕ) (other : Preference) → i < length rows → AreRowsKnown words rows
    → AreKnown words (symbols_of_wish (get_or rows i other).wish)
known_at words rows i other h k = (subst (λ (rest : List Preference). AreRowsKnown words rest) (drop_more rows i other h) (known_after words i rows k)).0

known_with : (words : Texts) (p : Preference) (rows : List Preference) → AreRowsKnown words rows → AreKnown words (symbols_of_wish p.wish)
    → AreRowsKnown words (with_row_at words p rows)
known_with words p [] k h = (h, tt)
known_with words p (q ∷ rows) k h = by (is_lt (row_cmp words q p)) (known_with words p rows k.1 h)
  where
    by : (b : Bool) → AreRowsKnown words (with_row_at words p rows) → AreRowsKnown words (cond b (q ∷ with_row_at words p rows) (p ∷ q ∷ rows))
    by true rest = (k.0, rest)
    by false rest = (h, k)

pub known_in_order : (words : Texts) (rows : List Preference) → AreRowsKnown words rows → AreRowsKnown words (rows_in_order words rows)
known_in_order words [] k = tt
known_in_order words (p ∷ rows) k = known_with words p (rows_in_order words rows) (known_in_order words rows k.1) k.0

pub known_order_after : (words : Texts) (i : ℕ) (rows : List Preference) → AreRowsKnown words rows → AreRowsKnown words (rows_in_order words (drop i rows))
known_order_after words i rows k = known_in_order words (drop i rows) (known_after words i rows k)

pub known_filter : (keeps : Preference → Bool) (words : Texts) (rows : List Preference) → AreRowsKnown words rows → AreRowsKnown words (filter keeps rows)
known_filter keeps words [] k = tt
known_filter keeps words (row ∷ rows) k = by (keeps row) (known_filter keeps words rows k.1)
  where
    by : (b : Bool) → AreRowsKnown words (filter keeps rows) → AreRowsKnown words (cond b (row ∷ filter keeps rows) (filter keeps rows))
    by true rest = (k.0, rest)
    by false rest = rest
