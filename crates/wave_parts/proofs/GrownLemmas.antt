-- Known symbols stay known in a table that grows, and rows that are left or added are known.
use Rattle.std.proofs.Common.{ℕ, ◌≤◌, Bool, true, false, not, cond, List, [], ◌∷◌, ◌++◌, filter, length, Option, Some, None, arith}
use Rattle.soar_sym.specs.Words.{Texts}
use Rattle.soar_sym.specs.declared.symbol.Sym.{Sym}
use Rattle.soar_sym.specs.declared.symbol.Sym.TheVariants.{Ident, Int, Word}
use Rattle.soar_sym.specs.declared.symbol.Triple.{Triple}
use Rattle.soar_wm.specs.declared.element.Element.{Element}
use Rattle.defs_soar.specs.declared.goal.Goal.{Goal}
use Rattle.defs_soar.specs.declared.goal.Selection.{Selection}
use Rattle.defs_soar.specs.declared.preference.Preference.{Preference}
use Rattle.defs_soar.specs.Preferences.{is_kept_already, with_row, with_rows, is_of_gone, without_firings, is_rejected_by, rows_after}
use Rattle.soar_settle.specs.Known.{AreElementsKnown, AreRowsKnown, AreTriplesKnown}
use Rattle.soar_fire.specs.Growth.{LettersKeep}
use Rattle.learning_laws.specs.LawfulAgents.{IsNumbered}
use Rattle.wave_parts.specs.Seen.{AreGoalsKnown, IsSelectionKnown}
use Rattle.wave_firings.proofs.FiringKnown.{known_grown, are_rows_append}

pub elements_grown : (old new : Texts) (elements : List Element) → length old ≤ length new → AreElementsKnown old elements → AreElementsKnown new elements
elements_grown old new [] grown h = tt
elements_grown old new (e ∷ elements) grown h =
    ((known_grown old new e.id grown h.0.0, known_grown old new e.attr grown h.0.1, known_grown old new e.value grown h.0.2), elements_grown old new elements grown h.1)

pub triples_grown : (old new : Texts) (triples : List Triple) → length old ≤ length new → AreTriplesKnown old triples → AreTriplesKnown new triples
triples_grown old new [] grown h = tt
triples_grown old new (t ∷ triples) grown h =
    ((known_grown old new t.id grown h.0.0, known_grown old new t.attr grown h.0.1, known_grown old new t.value grown h.0.2), triples_grown old new triples grown h.1)

pub selection_grown : (old new : Texts) (selected : Option Selection) → length old ≤ length new → IsSelectionKnown old selected → IsSelectionKnown new selected
selection_grown old new None grown h = tt
selection_grown old new (Some selection) grown h = known_grown old new selection.operator grown h

pub rows_filtered : (words : Texts) (p : Preference → Bool) (rows : List Preference) → AreRowsKnown words rows → AreRowsKnown words (filter p rows)
rows_filtered words p [] h = tt
rows_filtered words p (row ∷ rows) h = by (p row) (rows_filtered words p rows h.1)
  where
    by : (b : Bool) → AreRowsKnown words (filter p rows) → AreRowsKnown words (cond b (row ∷ filter p rows) (filter p rows))
    by true rest = (h.0, rest)
    by false rest = rest

row_with : (words : Texts) (rows : List Preference) (row : Preference) → AreRowsKnown words rows → AreRowsKnown words (row ∷ []) → AreRowsKnown words (with_row rows row)
row_with words rows row h k = by (is_kept_already rows row)
  where
    by : (b : Bool) → AreRowsKnown words (cond b rows (rows ++ row ∷ []))
    by true = h
    by false = are_rows_append words rows (row ∷ []) h k

rows_with : (words : Texts) (rows made : List Preference) → AreRowsKnown words rows → AreRowsKnown words made → AreRowsKnown words (with_rows rows made)
rows_with words rows [] h k = h
rows_with words rows (row ∷ made) h k = rows_with words (with_row rows row) made (row_with words rows row h (k.0, tt)) k.1

pub rows_after_known : (words : Texts) (rows made : List Preference) (gone : List ℕ) → AreRowsKnown words rows → AreRowsKnown words made → AreRowsKnown words (rows_after rows gone made)
rows_after_known words rows made gone h k =
    rows_filtered words (λ row. not (is_rejected_by made row)) (with_rows (without_firings rows gone) made)
    (rows_with words (without_firings rows gone) made (rows_filtered words (λ row. not (is_of_gone gone row)) rows h) k)

-- ---- goals, as the table and the letters grow

pub numbered_later : (old new : List ℕ) (s : Sym) → LettersKeep old new → IsNumbered old s → IsNumbered new s
numbered_later old new (Ident l n) keep h = omega (arith, h, keep l)
numbered_later old new (Word n) keep h = tt
numbered_later old new (Int z) keep h = tt

pub goals_grown : (old new : Texts) (letters later : List ℕ) (goals : List Goal) → length old ≤ length new → LettersKeep letters later → AreGoalsKnown old letters goals
    → AreGoalsKnown new later goals
goals_grown old new letters later goals grown keep h g is = record {
  id_known = known_grown old new g.id grown (h g is).id_known;
  id_numbered = numbered_later letters later g.id keep (h g is).id_numbered;
  items_known = λ item at. known_grown old new item.value grown ((h g is).items_known item at);
  selection_known = selection_grown old new g.selected grown (h g is).selection_known;
}
