-- Rows at their places in order of triple.
use Rattle.std.proofs.Common.{◌≡◌, ◌∙◌, refl, sym, ap, ℕ, zero, suc, ◌+◌, ◌<◌, ◌≤◌, nat_lt, arith, Bool, true, false, cond, not, ◌&&◌, List, [], ◌∷◌, ◌++◌, length, take, drop, get_or, map, None, Ordering, Less, Equal, Greater}
use Rattle.std.proofs.Math.ListN.{set}
use Rattle.std.proofs.lemmas.List.{drop_more}
use Rattle.std.specs.List.{prefix_len}
use Rattle.std.specs.Ordering.{is_lt, ordering_then}
use Rattle.soar_sym.specs.Order.{triple_cmp}
use Rattle.soar_sym.specs.Words.{Texts}
use Rattle.soar_sym.specs.declared.symbol.Sym.{Sym}
use Rattle.soar_sym.specs.declared.symbol.Sym.TheVariants.{Ident}
use Rattle.soar_rule.specs.Symbols.{AreKnown}
use Rattle.defs_soar.specs.declared.preference.PrefKind.TheVariants as kind
use Rattle.defs_soar.specs.declared.preference.Preference.{Preference}
use Rattle.defs_soar.specs.declared.preference.Wish.{Wish}
use Rattle.defs_soar.specs.Dependencies.{symbols_of_wish}
use Rattle.defs_soar.specs.History.{FiringOf}
use Rattle.defs_soar.specs.Results.{accepted_for, each_triple_once, result_row, row_triple, rows_seen, with_closure_row}
use Rattle.defs_soar.specs.Sorted.{has_symbol}
use Rattle.defs_soar.specs.Values.{is_kind, same_triple}
use Rattle.chunk_results.specs.Placed.{is_behind, lesser_maker, put_row}
use Rattle.chunk_results.specs.Reached.{AreRowsKnown, AreWishesKnown}

-- what stands past the end
abbrev pub no_preference : Preference
no_preference = record { firing = 0; wish = record { id = Ident 0 0; attr = Ident 0 0; value = Ident 0 0; kind = kind.Accept; referent = None }; operator_support = false }

-- unmarked triples differ in no mark
pub then_equal : (o : Ordering) → ordering_then o Equal ≡ o
then_equal Less = refl
then_equal Equal = refl
then_equal Greater = refl

-- ---- one row more

pub placed : (words : Texts) (row : Preference) (rows : List Preference)
    → take (prefix_len (is_behind words row) rows) rows ++ put_row row (drop (prefix_len (is_behind words row) rows) rows) ≡ with_closure_row words row rows
placed words row [] = refl
placed words row (other ∷ rows) = by (same_triple row other) refl (is_lt (triple_cmp words (row_triple row) (row_triple other))) (placed words row rows)
  where
    n : ℕ
    n = prefix_len (is_behind words row) rows

    by : (s : Bool) → same_triple row other ≡ s → (l : Bool) → take n rows ++ put_row row (drop n rows) ≡ with_closure_row words row rows
        → take (cond (not s && not l) (1 + n) 0) (other ∷ rows) ++ put_row row (drop (cond (not s && not l) (1 + n) 0) (other ∷ rows))
        ≡ cond s (lesser_maker row other ∷ rows) (cond l (row ∷ other ∷ rows) (other ∷ with_closure_row words row rows))
    by true e l later = ap (λ b. cond b (lesser_maker row other ∷ rows) (row ∷ other ∷ rows)) e
    by false e true later = ap (λ b. cond b (lesser_maker row other ∷ rows) (row ∷ other ∷ rows)) e
    by false e false later =
        let one : 1 + n ≡ suc n = omega arith in
        ap (λ m. take m (other ∷ rows) ++ put_row row (drop m (other ∷ rows))) one ∙ ap (λ l. other ∷ l) later

pub within : (p : Preference → Bool) (rows : List Preference) → prefix_len p rows ≤ length rows
within p [] = omega arith
within p (row ∷ rows) = by (p row) (within p rows)
  where
    by : (b : Bool) → prefix_len p rows ≤ length rows → cond b (1 + prefix_len p rows) 0 ≤ suc (length rows)
    by true l = omega (arith, l)
    by false l = omega arith

set_there : (xs : List Preference) (at : ℕ) (x : Preference) → at < length xs → set xs at x ≡ take at xs ++ x ∷ drop (at + 1) xs
set_there [] at x l = absurd (omega (arith, l))
set_there (y ∷ xs) zero x l = refl
set_there (y ∷ xs) (suc at) x l =
    let one : suc at + 1 ≡ suc (at + 1) = omega arith in
    ap (λ ys. y ∷ ys) (set_there xs at x (omega (arith, l))) ∙ ap (λ n. y ∷ (take at xs ++ x ∷ drop n (y ∷ xs))) (sym one)

module _ (xs : List Preference) (at : ℕ) (row d : Preference) (less : at < length xs) where
  put_there : put_row row (drop at xs) ≡ cond (same_triple row (get_or xs at d)) (lesser_maker row (get_or xs at d) ∷ drop (at + 1) xs) (row ∷ get_or xs at d ∷ drop (at + 1) xs)
  put_there = ap (put_row row) (drop_more xs at d less)

  pub put_same : same_triple row (get_or xs at d) ≡ true → set xs at (lesser_maker row (get_or xs at d)) ≡ take at xs ++ put_row row (drop at xs)
  put_same e =
      set_there xs at (lesser_maker row (get_or xs at d)) less
      ∙ ap (λ l. take at xs ++ l)
      (sym (put_there ∙ ap (λ b. cond b (lesser_maker row (get_or xs at d) ∷ drop (at + 1) xs) (row ∷ get_or xs at d ∷ drop (at + 1) xs)) e))

-- ---- known words

module _ (words : Texts) where
  pub known_at : (rows : List Preference) (i : ℕ) (d : Preference) → i < length rows → AreRowsKnown words rows → AreKnown words (symbols_of_wish (get_or rows i d).wish)
  known_at [] i d l k = absurd (omega (arith, l))
  known_at (row ∷ rows) zero d l k = k.0
  known_at (row ∷ rows) (suc i) d l k = known_at rows i d (omega (arith, l)) k.1

  known_drop : (rows : List Preference) (i : ℕ) → AreRowsKnown words rows → AreRowsKnown words (drop i rows)
  known_drop [] zero k = tt
  known_drop [] (suc i) k = tt
  known_drop (row ∷ rows) zero k = k
  known_drop (row ∷ rows) (suc i) k = known_drop rows i k.1

  known_accepted : (ids : List Sym) (rows : List Preference) → AreRowsKnown words rows → AreRowsKnown words (accepted_for rows ids)
  known_accepted ids [] k = tt
  known_accepted ids (row ∷ rows) k = by (is_kind row.wish.kind kind.Accept && has_symbol ids row.wish.id) (known_accepted ids rows k.1)
    where
      by : (b : Bool) → AreRowsKnown words (accepted_for rows ids) → AreRowsKnown words (cond b (row ∷ accepted_for rows ids) (accepted_for rows ids))
      by true later = (k.0, later)
      by false later = later

  known_with : (row : Preference) (rows : List Preference) → AreKnown words (symbols_of_wish row.wish) → AreRowsKnown words rows → AreRowsKnown words (with_closure_row words row rows)
  known_with row [] h k = (h, tt)
  known_with row (other ∷ rows) h k =
      by (same_triple row other) (nat_lt row.firing other.firing) (is_lt (triple_cmp words (row_triple row) (row_triple other))) (known_with row rows h k.1)
    where
      by : (s m l : Bool) → AreRowsKnown words (with_closure_row words row rows)
          → AreRowsKnown words (cond s (cond m row other ∷ rows) (cond l (row ∷ other ∷ rows) (other ∷ with_closure_row words row rows)))
      by true true l later = (h, k.1)
      by true false l later = k
      by false m true later = (h, k)
      by false m false later = (k.0, later)

  known_once : (rows : List Preference) → AreRowsKnown words rows → AreRowsKnown words (each_triple_once words rows)
  known_once [] k = tt
  known_once (row ∷ rows) k = known_with row (each_triple_once words rows) k.0 (known_once rows k.1)

  pub known_after : (ids : List Sym) (rows : List Preference) (at : ℕ) → AreRowsKnown words rows → AreRowsKnown words (each_triple_once words (accepted_for (drop at rows) ids))
  known_after ids rows at k = known_once (accepted_for (drop at rows) ids) (known_accepted ids (drop at rows) (known_drop rows at k))

  known_made : (f : FiringOf) (made : List Wish) → AreWishesKnown words made → AreRowsKnown words (map (result_row f) made)
  known_made f [] k = tt
  known_made f (w ∷ made) k = (k.0, known_made f made k.1)

  pub known_seen : (f : FiringOf) (rows : List Preference) → AreRowsKnown words rows → AreWishesKnown words f.made → AreRowsKnown words (rows_seen rows f)
  known_seen f [] k m = known_made f f.made m
  known_seen f (row ∷ rows) k m = (k.0, known_seen f rows k.1 m)
