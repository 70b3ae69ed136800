-- What holds of all rows holds of those of a slot.
use Rattle.std.proofs.Common.{◌≤◌, Bool, true, false, ◌&&◌, cond, List, [], ◌∷◌, length, suc, arith}
use Rattle.soar_sym.specs.Equality.{symbol_eq}
use Rattle.soar_sym.specs.Words.{Texts}
use Rattle.soar_sym.specs.declared.symbol.Sym.{Sym}
use Rattle.defs_soar.specs.declared.preference.Preference.{Preference}
use Rattle.defs_soar.specs.Architecture.{operator_word}
use Rattle.soar_choose.specs.Rows.{AreInRange, AreKnown}
use Rattle.soar_decide.specs.Outcomes.{operator_rows}

pub slot_known : (words : Texts) (rows : List Preference) (goal : Sym) → AreKnown words rows → AreKnown words (operator_rows rows goal)
slot_known words [] goal k = tt
slot_known words (row ∷ rows) goal k = by (symbol_eq row.wish.id goal && symbol_eq row.wish.attr operator_word) (slot_known words rows goal k.2)
  where
    by : (b : Bool) → AreKnown words (operator_rows rows goal) → AreKnown words (cond b (row ∷ operator_rows rows goal) (operator_rows rows goal))
    by true rest = (k.0, k.1, rest)
    by false rest = rest

pub slot_in_range : (rows : List Preference) (goal : Sym) → AreInRange rows → AreInRange (operator_rows rows goal)
slot_in_range [] goal k = tt
slot_in_range (row ∷ rows) goal k = by (symbol_eq row.wish.id goal && symbol_eq row.wish.attr operator_word) (slot_in_range rows goal k.1)
  where
    by : (b : Bool) → AreInRange (operator_rows rows goal) → AreInRange (cond b (row ∷ operator_rows rows goal) (operator_rows rows goal))
    by true rest = (k.0, rest)
    by false rest = rest

fewer : (rows : List Preference) (goal : Sym) → length (operator_rows rows goal) ≤ length rows
fewer [] goal = omega arith
fewer (row ∷ rows) goal = by (symbol_eq row.wish.id goal && symbol_eq row.wish.attr operator_word) (fewer rows goal)
  where
    by : (b : Bool) → length (operator_rows rows goal) ≤ length rows → length (cond b (row ∷ operator_rows rows goal) (operator_rows rows goal)) ≤ suc (length rows)
    by true rest = omega (arith, rest)
    by false rest = omega (arith, rest)

pub slot_few : (rows : List Preference) (goal : Sym) → length rows ≤ 1000000 → length (operator_rows rows goal) ≤ 1000000
slot_few rows goal few = omega (arith, few, fewer rows goal)
