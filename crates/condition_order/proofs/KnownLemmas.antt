-- Elements and symbols that are known, in lists of them.
use Rattle.std.proofs.Common.{ℕ, ◌<◌, zero, suc, Bool, true, false, cond, List, [], ◌∷◌, length, drop, get_or, filter, subst}
use Rattle.std.specs.Ordering.{is_lt}
use Rattle.std.proofs.lemmas.List.{drop_more}
use Rattle.soar_sym.specs.Equality.{symbol_eq}
use Rattle.soar_sym.specs.Order.{symbol_cmp}
use Rattle.soar_sym.specs.Words.{Texts, IsKnown}
use Rattle.soar_sym.specs.declared.symbol.Sym.{Sym}
use Rattle.soar_rule.specs.Symbols.{AreKnown}
use Rattle.soar_wm.specs.declared.element.Element.{Element}
use Rattle.condition_order.specs.Orders.{AreElementsKnown}
use Rattle.condition_order.specs.Reaching.{IsElementKnown}
use Rattle.defs_soar.specs.ConditionOrder.{states_of}
use Rattle.defs_soar.specs.Sorted.{with_symbol}

known_after : (words : Texts) (i : ℕ) (elements : List Element) → AreElementsKnown words elements → AreElementsKnown words (drop i elements)
known_after words zero elements k = k
known_after words (suc i) [] k = tt
known_after words (suc i) (e ∷ elements) k = known_after words i elements k.1

pub known_at : (words : Texts) (elements : List Element) (i : ℕ) (d : Element) → i < length elements → AreElementsKnown words elements → IsElementKnown words (get_or elements i d)
known_at words elements i d h k = let P : List Element → Type 0 = AreElementsKnown words in (subst P (drop_more elements i d h) (known_after words i elements k)).0

pub known_filter : (words : Texts) (p : Element → Bool) (elements : List Element) → AreElementsKnown words elements → AreElementsKnown words (filter p elements)
known_filter words p [] k = tt
known_filter words p (e ∷ elements) k = by (p e) (known_filter words p elements k.1)
  where
    by : (b : Bool) → AreElementsKnown words (filter p elements) → AreElementsKnown words (cond b (e ∷ filter p elements) (filter p elements))
    by true later = (k.0, later)
    by false later = later

-- ---- states

known_with : (words : Texts) (symbols : List Sym) (s : Sym) → AreKnown words symbols → IsKnown words s → AreKnown words (with_symbol words symbols s)
known_with words [] s k h = (h, tt)
known_with words (t ∷ symbols) s k h = by (symbol_eq s t) (is_lt (symbol_cmp words s t)) (known_with words symbols s k.1 h)
  where
    by : (b d : Bool) → AreKnown words (with_symbol words symbols s) → AreKnown words (cond b (t ∷ symbols) (cond d (s ∷ t ∷ symbols) (t ∷ with_symbol words symbols s)))
    by true d later = k
    by false true later = (h, k)
    by false false later = (k.0, later)

known_states : (words : Texts) (elements : List Element) → AreElementsKnown words elements → AreKnown words (states_of words elements)
known_states words [] k = tt
known_states words (e ∷ elements) k = by e.of_state (known_states words elements k.1)
  where
    by : (b : Bool) → AreKnown words (states_of words elements) → AreKnown words (cond b (with_symbol words (states_of words elements) e.id) (states_of words elements))
    by true later = known_with words (states_of words elements) e.id later k.0.0
    by false later = later

pub known_states_after : (words : Texts) (i : ℕ) (elements : List Element) → AreElementsKnown words elements → AreKnown words (states_of words (drop i elements))
known_states_after words i elements k = known_states words (drop i elements) (known_after words i elements k)
