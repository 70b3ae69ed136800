-- The values of some rows and those of others, merged, are the values of all.
use Rattle.std.proofs.Common.{◌≡◌, ◌∙◌, refl, sym, ap, ap₂, Bool, true, false, ◌&&◌, ◌||◌, List, [], ◌∷◌, ◌++◌, Ordering, Less, Equal, Greater}
use Rattle.std.proofs.lemmas.List.Folds.{list_any-append}
use Rattle.std.specs.Ordering.{match_ordering, ordering_reverse}
use Rattle.soar_sym.specs.Equality.{symbol_eq}
use Rattle.soar_sym.specs.Order.{symbol_cmp}
use Rattle.soar_sym.specs.Words.{IsKnown, IsTable, Texts}
use Rattle.soar_sym.specs.declared.symbol.Sym.{Sym}
use Rattle.defs_soar.specs.declared.preference.PrefKind.{PrefKind}
use Rattle.defs_soar.specs.declared.preference.Preference.{Preference}
use Rattle.defs_soar.specs.Choice.{has_kind, values_of}
use Rattle.defs_soar.specs.Sorted.{has_symbol}
use Rattle.defs_soar.specs.Values.{is_kind}
use Rattle.soar_choose.specs.Merging.{left, merged, moved}
use Rattle.soar_choose.specs.Parts.{AreSymbolsKnown}
use Rattle.soar_choose.specs.Rows.{AreKnown}
use Rattle.soar_choose.proofs.RisingLemmas.{IsBelow, Rises, below_first, rises_values, same_symbols}
use Rattle.soar_choose.proofs.RowLemmas.{known_values}
use Rattle.soar_choose.proofs.ShuffleLemmas.{has_values}
use Rattle.soar_choose.proofs.SymbolOrderLemmas.{symbols_total, tied_are_one}

module _ (words : Texts) where
  -- ---- in order

  behind : (s t : Sym) → symbol_cmp words s t ≡ Greater → symbol_cmp words t s ≡ Less
  behind s t h = (symbols_total words).antisymm t s ∙ ap ordering_reverse h

  below_append : (s : Sym) (a b : List Sym) → IsBelow words s a → IsBelow words s b → IsBelow words s (a ++ b)
  below_append s [] b h k = k
  below_append s (t ∷ a) b h k = (h.0, below_append s a b h.1 k)

  below_moved : (s t : Sym) (b : List Sym) → IsBelow words s b → IsBelow words s (moved words t b)
  below_moved s t [] h = tt
  below_moved s t (u ∷ b) h = by (symbol_cmp words t u) (below_moved s t b h.1)
    where
      by : (o : Ordering) → IsBelow words s (moved words t b) → IsBelow words s (match_ordering o [] (moved words t b) (u ∷ moved words t b))
      by Less later = tt
      by Equal later = later
      by Greater later = (h.0, later)

  below_left : (s t : Sym) (b : List Sym) → IsBelow words s b → IsBelow words s (left words t b)
  below_left s t [] h = tt
  below_left s t (u ∷ b) h = by (symbol_cmp words t u) (below_left s t b h.1)
    where
      by : (o : Ordering) → IsBelow words s (left words t b) → IsBelow words s (match_ordering o (u ∷ b) (left words t b) (left words t b))
      by Less later = h
      by Equal later = later
      by Greater later = later

  left_after : (s : Sym) (b : List Sym) → Rises words b → IsBelow words s (left words s b)
  left_after s [] h = tt
  left_after s (u ∷ b) h = by (symbol_cmp words s u) refl (left_after s b h.1)
    where
      by : (o : Ordering) → symbol_cmp words s u ≡ o → IsBelow words s (left words s b) → IsBelow words s (match_ordering o (u ∷ b) (left words s b) (left words s b))
      by Less p later = (p, below_first words s u b p h.0)
      by Equal p later = later
      by Greater p later = later

  left_rises : (s : Sym) (b : List Sym) → Rises words b → Rises words (left words s b)
  left_rises s [] h = tt
  left_rises s (u ∷ b) h = by (symbol_cmp words s u) (left_rises s b h.1)
    where
      by : (o : Ordering) → Rises words (left words s b) → Rises words (match_ordering o (u ∷ b) (left words s b) (left words s b))
      by Less later = h
      by Equal later = later
      by Greater later = later

  moved_rises : (s : Sym) (b rest : List Sym) → Rises words b → IsBelow words s rest → Rises words rest → Rises words (moved words s b ++ s ∷ rest)
  moved_rises s [] rest h f r = (f, r)
  moved_rises s (u ∷ b) rest h f r = by (symbol_cmp words s u) refl (moved_rises s b rest h.1 f r)
    where
      by : (o : Ordering) → symbol_cmp words s u ≡ o → Rises words (moved words s b ++ s ∷ rest)
          → Rises words (match_ordering o [] (moved words s b) (u ∷ moved words s b) ++ s ∷ rest)
      by Less p later = (f, r)
      by Equal p later = later
      by Greater p later =
          let before = behind s u p in
          (below_append u (moved words s b) (s ∷ rest) (below_moved u s b h.0) (before, below_first words u s rest before f), later)

  below_merged : (s : Sym) (a b : List Sym) → IsBelow words s a → IsBelow words s b → IsBelow words s (merged words a b)
  below_merged s [] b h k = k
  below_merged s (t ∷ a) b h k =
      below_append s (moved words t b) (t ∷ merged words a (left words t b)) (below_moved s t b k) (h.0, below_merged s a (left words t b) h.1 (below_left s t b k))

  rises_merged : (a b : List Sym) → Rises words a → Rises words b → Rises words (merged words a b)
  rises_merged [] b h k = k
  rises_merged (s ∷ a) b h k =
      moved_rises s b (merged words a (left words s b)) k
      (below_merged s a (left words s b) h.0 (left_after s b k)) (rises_merged a (left words s b) h.1 (left_rises s b k))

  -- ---- which they are

  absorbed : (p q rest : Bool) → q ≡ p → (p || rest) ≡ (p || (q || rest))
  absorbed true q rest h = refl
  absorbed false q rest h = sym (ap (λ x. x || rest) h)

  passed : (u m t l h : Bool) → (m || (t || l)) ≡ (t || h) → ((u || m) || (t || l)) ≡ (t || (u || h))
  passed true m true l h k = refl
  passed true m false l h k = refl
  passed false m true l h k = k
  passed false m false l h k = k

  joined : (m t a l h : Bool) → (m || (t || l)) ≡ (t || h) → (m || (t || (a || l))) ≡ ((t || a) || h)
  joined true true a l h k = refl
  joined true false true l h k = refl
  joined true false false l h k = k
  joined false true a l h k = refl
  joined false false true l h k = refl
  joined false false false l h k = k

  known_left : (s : Sym) (b : List Sym) → AreSymbolsKnown words b → AreSymbolsKnown words (left words s b)
  known_left s [] known = tt
  known_left s (u ∷ b) known = by (symbol_cmp words s u) (known_left s b known.1)
    where
      by : (o : Ordering) → AreSymbolsKnown words (left words s b) → AreSymbolsKnown words (match_ordering o (u ∷ b) (left words s b) (left words s b))
      by Less later = known
      by Equal later = later
      by Greater later = later

  module _ (table : IsTable words) where
    has_parted : (s : Sym) (b : List Sym) (v : Sym) → IsKnown words s → AreSymbolsKnown words b
        → (has_symbol (moved words s b) v || (symbol_eq v s || has_symbol (left words s b) v)) ≡ (symbol_eq v s || has_symbol b v)
    has_parted s [] v known also = refl
    has_parted s (u ∷ b) v known also = by (symbol_cmp words s u) refl (has_parted s b v known also.1)
      where
        by : (o : Ordering) → symbol_cmp words s u ≡ o
            → (has_symbol (moved words s b) v || (symbol_eq v s || has_symbol (left words s b) v)) ≡ (symbol_eq v s || has_symbol b v)
            → (has_symbol (match_ordering o [] (moved words s b) (u ∷ moved words s b)) v || (symbol_eq v s || has_symbol (match_ordering o (u ∷ b) (left words s b) (left words s b)) v))
            ≡ (symbol_eq v s || (symbol_eq v u || has_symbol b v))
        by Less p later = refl
        by Equal p later = later ∙ absorbed (symbol_eq v s) (symbol_eq v u) (has_symbol b v) (ap (symbol_eq v) (sym (tied_are_one words s u table known also.0 p)))
        by Greater p later =
            passed (symbol_eq v u) (has_symbol (moved words s b) v) (symbol_eq v s) (has_symbol (left words s b) v) (has_symbol b v) later

    has_merged : (a b : List Sym) (v : Sym) → AreSymbolsKnown words a → AreSymbolsKnown words b → has_symbol (merged words a b) v ≡ (has_symbol a v || has_symbol b v)
    has_merged [] b v known also = refl
    has_merged (s ∷ a) b v known also =
        list_any-append (symbol_eq v) (moved words s b) (s ∷ merged words a (left words s b))
        ∙ ap (λ r. has_symbol (moved words s b) v || (symbol_eq v s || r)) (has_merged a (left words s b) v known.1 (known_left s b also))
        ∙ joined (has_symbol (moved words s b) v) (symbol_eq v s) (has_symbol a v) (has_symbol (left words s b) v) (has_symbol b v) (has_parted s b v known.0 also)

    -- ---- the values of rows

    pub values_merged : (k : PrefKind) (rows front back : List Preference) → front ++ back ≡ rows → AreKnown words rows → AreKnown words front → AreKnown words back
        → merged words (values_of words k front) (values_of words k back) ≡ values_of words k rows
    values_merged k rows front back parts all known also =
        let first = values_of words k front in
        let second = values_of words k back in
        same_symbols words (merged words first second) (values_of words k rows)
        (rises_merged first second (rises_values words k front table known) (rises_values words k back table also)) (rises_values words k rows table all)
        (λ v.
        has_merged first second v (known_values words k front known) (known_values words k back also)
        ∙ ap₂ (λ p q. p || q) (has_values words k front v) (has_values words k back v)
        ∙ sym (list_any-append (λ row. is_kind row.wish.kind k && symbol_eq row.wish.value v) front back)
        ∙ ap (λ l. has_kind l k v) parts ∙ sym (has_values words k rows v))
