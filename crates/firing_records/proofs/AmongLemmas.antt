-- Goals among symbols are known, and in order they are the goals that are recorded.
use Rattle.std.proofs.Common.{◌≡◌, ℕ, ◌<◌, ◌||◌, zero, suc, Bool, true, false, cond, List, [], ◌∷◌, length, drop, get_or, refl, sym, ap, subst}
use Rattle.std.specs.Ordering.{is_lt}
use Rattle.std.proofs.lemmas.List.{drop_more}
use Rattle.soar_sym.specs.Equality.{symbol_eq}
use Rattle.soar_sym.specs.Order.{symbol_cmp}
use Rattle.soar_sym.specs.Words.{Texts, IsKnown}
use Rattle.soar_sym.specs.declared.symbol.Sym.{Sym}
use Rattle.soar_sym.specs.declared.symbol.Sym.TheVariants.{Ident}
use Rattle.soar_sym.proofs.KeyLemmas.{symbol_same}
use Rattle.soar_rule.specs.Symbols.{AreKnown}
use Rattle.defs_soar.specs.declared.goal.Goal.{Goal}
use Rattle.defs_soar.specs.Goals.{goal_ids, is_goal}
use Rattle.defs_soar.specs.Sorted.{has_symbol, with_symbol}
use Rattle.defs_soar.specs.WaveAtHand.{goals_among}
use Rattle.firing_records.specs.Among.{goals_in, in_order}

-- ---- the goals that are recorded

pub found_in_order : (words : Texts) (goals : List Goal) (symbols : List Sym) → in_order words (goals_in goals symbols) ≡ goals_among words goals symbols
found_in_order words goals [] = refl
found_in_order words goals (s ∷ symbols) = by (is_goal goals s) (found_in_order words goals symbols)
  where
    by : (b : Bool) → in_order words (goals_in goals symbols) ≡ goals_among words goals symbols
        → in_order words (cond b (s ∷ goals_in goals symbols) (goals_in goals symbols)) ≡ cond b (with_symbol words (goals_among words goals symbols) s) (goals_among words goals symbols)
    by true rest = ap (λ l. with_symbol words l s) rest
    by false rest = rest

-- ---- known symbols

known_goal : (words : Texts) (ids : List Sym) (s : Sym) → AreKnown words ids → has_symbol ids s ≡ true → IsKnown words s
known_goal words [] s k h = absurd (cc)
known_goal words (id ∷ ids) s k h = by (symbol_eq s id) refl h (known_goal words ids s k.1)
  where
    by : (b : Bool) → symbol_eq s id ≡ b → (b || has_symbol ids s) ≡ true → (has_symbol ids s ≡ true → IsKnown words s) → IsKnown words s
    by true e h later = subst (IsKnown words) (sym (symbol_same s id e)) k.0
    by false e h later = later h

pub known_found : (words : Texts) (goals : List Goal) (symbols : List Sym) → AreKnown words (goal_ids goals) → AreKnown words (goals_in goals symbols)
known_found words goals [] k = tt
known_found words goals (s ∷ symbols) k = by (is_goal goals s) refl (known_found words goals symbols k)
  where
    by : (b : Bool) → is_goal goals s ≡ b → AreKnown words (goals_in goals symbols) → AreKnown words (cond b (s ∷ goals_in goals symbols) (goals_in goals symbols))
    by true e rest = (known_goal words (goal_ids goals) s k e, rest)
    by false e rest = rest

known_after : (words : Texts) (i : ℕ) (symbols : List Sym) → AreKnown words symbols → AreKnown words (drop i symbols)
known_after words zero symbols k = k
known_after words (suc i) [] k = tt
known_after words (suc i) (s ∷ symbols) k = known_after words i symbols k.1

pub known_at : (words : Texts) (symbols : List Sym) (i : ℕ) → i < length symbols → AreKnown words symbols → IsKnown words (get_or symbols i (Ident 0 0))
known_at words symbols i h k = let P : List Sym → Type 0 = AreKnown words in (subst P (drop_more symbols i (Ident 0 0) h) (known_after words i symbols k)).0

known_with : (words : Texts) (symbols : List Sym) (s : Sym) → AreKnown words symbols → IsKnown words s → AreKnown words (with_symbol words symbols s)
known_with words [] s k h = (h, tt)
known_with words (t ∷ symbols) s k h = by (symbol_eq s t) (is_lt (symbol_cmp words s t)) (known_with words symbols s k.1 h)
  where
    by : (b d : Bool) → AreKnown words (with_symbol words symbols s) → AreKnown words (cond b (t ∷ symbols) (cond d (s ∷ t ∷ symbols) (t ∷ with_symbol words symbols s)))
    by true d rest = k
    by false true rest = (h, k)
    by false false rest = (k.0, rest)

known_in_order : (words : Texts) (symbols : List Sym) → AreKnown words symbols → AreKnown words (in_order words symbols)
known_in_order words [] k = tt
known_in_order words (s ∷ symbols) k = known_with words (in_order words symbols) s (known_in_order words symbols k.1) k.0

pub known_order_after : (words : Texts) (i : ℕ) (symbols : List Sym) → AreKnown words symbols → AreKnown words (in_order words (drop i symbols))
known_order_after words i symbols k = known_in_order words (drop i symbols) (known_after words i symbols k)
