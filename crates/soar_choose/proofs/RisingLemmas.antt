-- Symbols in strict order are known by which symbols stand among them.
use Rattle.std.proofs.Common.{◌≡◌, ◌∙◌, inl, inr, ap, ap₂, sym, refl, subst, Bool, true, false, true≢false, cond, ◌||◌, List, [], ◌∷◌, Less, is_lt}
use Rattle.soar_sym.specs.Equality.{symbol_eq}
use Rattle.soar_sym.specs.Order.{symbol_cmp}
use Rattle.soar_sym.specs.Words.{Texts, IsTable, IsKnown}
use Rattle.soar_sym.specs.declared.symbol.Sym.{Sym}
use Rattle.defs_soar.specs.declared.preference.PrefKind.{PrefKind}
use Rattle.defs_soar.specs.declared.preference.Preference.{Preference}
use Rattle.defs_soar.specs.Choice.{values_of}
use Rattle.defs_soar.specs.Sorted.{has_symbol, with_symbol}
use Rattle.defs_soar.specs.Values.{is_kind}
use Rattle.soar_choose.specs.Parts.{AreSymbolsKnown}
use Rattle.soar_choose.specs.Rows.{AreKnown}
use Rattle.soar_choose.proofs.AcceptLemmas.{either}
use Rattle.soar_choose.proofs.LawLemmas.{symbol_same}
use Rattle.soar_choose.proofs.RowLemmas.{known_values}
use Rattle.soar_choose.proofs.SymbolOrderLemmas.{comes_before, is_before, not_before_itself, symbol_itself, symbols_total}

module _ (words : Texts) where
  -- the symbol comes before each of these
  abbrev pub IsBelow : Sym → List Sym → Type 0
  IsBelow s [] = Unit {0}
  IsBelow s (t ∷ symbols) = (symbol_cmp words s t ≡ Less) × IsBelow s symbols

  abbrev pub Rises : List Sym → Type 0
  Rises [] = Unit {0}
  Rises (s ∷ symbols) = IsBelow s symbols × Rises symbols

  pub below_first : (s t : Sym) (symbols : List Sym) → symbol_cmp words s t ≡ Less → IsBelow t symbols → IsBelow s symbols
  below_first s t [] e h = tt
  below_first s t (u ∷ symbols) e h = ((symbols_total words).trans s t u e h.0, below_first s t symbols e h.1)

  below_with : (s t : Sym) (symbols : List Sym) → symbol_cmp words s t ≡ Less → IsBelow s symbols → IsBelow s (with_symbol words symbols t)
  below_with s t [] e h = (e, tt)
  below_with s t (u ∷ symbols) e h = by (symbol_eq t u) (is_lt (symbol_cmp words t u)) (below_with s t symbols e h.1)
    where
      by : (b d : Bool) → IsBelow s (with_symbol words symbols t) → IsBelow s (cond b (u ∷ symbols) (cond d (t ∷ u ∷ symbols) (u ∷ with_symbol words symbols t)))
      by true d rest = h
      by false true rest = (e, h)
      by false false rest = (h.0, rest)

  rises_with : (s : Sym) (symbols : List Sym) → IsTable words → IsKnown words s → AreSymbolsKnown words symbols → Rises symbols → Rises (with_symbol words symbols s)
  rises_with s [] table k ks h = (tt, tt)
  rises_with s (t ∷ symbols) table k ks h = by (symbol_eq s t) (is_lt (symbol_cmp words s t)) refl refl (rises_with s symbols table k ks.1 h.1)
    where
      by : (b d : Bool) → symbol_eq s t ≡ b → is_lt (symbol_cmp words s t) ≡ d → Rises (with_symbol words symbols s)
          → Rises (cond b (t ∷ symbols) (cond d (s ∷ t ∷ symbols) (t ∷ with_symbol words symbols s)))
      by true d same before rest = h
      by false true apart before rest = let e = is_before (symbol_cmp words s t) before in ((e, below_first s t symbols e h.0), h)
      by false false apart late rest = (below_with t s symbols (comes_before words s t table k ks.0 apart late) h.0, rest)

  pub rises_values : (k : PrefKind) (rows : List Preference) → IsTable words → AreKnown words rows → Rises (values_of words k rows)
  rises_values k [] table h = tt
  rises_values k (row ∷ rows) table h = by (is_kind row.wish.kind k) (rises_values k rows table h.2)
    where
      by : (b : Bool) → Rises (values_of words k rows) → Rises (cond b (with_symbol words (values_of words k rows) row.wish.value) (values_of words k rows))
      by true rest = rises_with row.wish.value (values_of words k rows) table h.0 (known_values words k rows h.2) rest
      by false rest = rest

  below_each : (s v : Sym) (symbols : List Sym) → IsBelow s symbols → has_symbol symbols v ≡ true → symbol_cmp words s v ≡ Less
  below_each s v [] h e = cc
  below_each s v (t ∷ symbols) h e =
      elim (either (symbol_eq v t) (has_symbol symbols v) e)
      [ inl k ↦ ap (symbol_cmp words s) (symbol_same v t k) ∙ h.0 | inr k ↦ below_each s v symbols h.1 k ]

  below_none : (s : Sym) (symbols : List Sym) → IsBelow s symbols → has_symbol symbols s ≡ false
  below_none s symbols h = by (has_symbol symbols s) refl
    where
      by : (b : Bool) → has_symbol symbols s ≡ b → b ≡ false
      by true e = absurd (not_before_itself words s (below_each s s symbols h e))
      by false e = refl

  first_has : (s : Sym) (symbols : List Sym) → has_symbol (s ∷ symbols) s ≡ true
  first_has s symbols = ap (λ b. b || has_symbol symbols s) (symbol_itself s)

  -- the first symbols of two lists that hold the same
  one_first : (s t : Sym) (xs ys : List Sym) → IsBelow s xs → IsBelow t ys → has_symbol (t ∷ ys) s ≡ true → has_symbol (s ∷ xs) t ≡ true → s ≡ t
  one_first s t xs ys hs ht es et =
      elim (either (symbol_eq s t) (has_symbol ys s) es) [
        | inl k ↦ symbol_same s t k
        | inr k ↦ elim (either (symbol_eq t s) (has_symbol xs t) et) [
          | inl j ↦ sym (symbol_same t s j)
          | inr j ↦ absurd (not_before_itself words s ((symbols_total words).trans s t s (below_each s t xs hs j) (below_each t s ys ht k)))
        ]
      ]

  rest_same : (s v : Sym) (xs ys : List Sym) → IsBelow s xs → IsBelow s ys → has_symbol (s ∷ xs) v ≡ has_symbol (s ∷ ys) v → has_symbol xs v ≡ has_symbol ys v
  rest_same s v xs ys hx hy e = by (symbol_eq v s) refl e
    where
      by : (b : Bool) → symbol_eq v s ≡ b → (b || has_symbol xs v) ≡ (b || has_symbol ys v) → has_symbol xs v ≡ has_symbol ys v
      by true k same =
          let q : v ≡ s = symbol_same v s k in
          ap (has_symbol xs) q ∙ below_none s xs hx ∙ sym (ap (has_symbol ys) q ∙ below_none s ys hy)
      by false k same = same

  pub same_symbols : (xs ys : List Sym) → Rises xs → Rises ys → ((v : Sym) → has_symbol xs v ≡ has_symbol ys v) → xs ≡ ys
  same_symbols [] [] hx hy e = refl
  same_symbols [] (t ∷ ys) hx hy e = absurd (true≢false (sym (first_has t ys) ∙ sym (e t)))
  same_symbols (s ∷ xs) [] hx hy e = absurd (true≢false (sym (first_has s xs) ∙ e s))
  same_symbols (s ∷ xs) (t ∷ ys) hx hy e =
      let q : s ≡ t = one_first s t xs ys hx.0 hy.0 (sym (e s) ∙ first_has s xs) (e t ∙ first_has t ys) in
      let below : IsBelow s ys = subst (λ u. IsBelow u ys) (sym q) hy.0 in
      ap₂ (λ u us. u ∷ us) q (same_symbols xs ys hx.1 hy.1 (λ v. rest_same s v xs ys hx.0 below (e v ∙ ap (λ u. has_symbol (u ∷ ys) v) (sym q))))
