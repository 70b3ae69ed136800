-- The same rows in another order give the same choice.
use Rattle.std.proofs.Common.{◌≡◌, ◌∙◌, ap, sym, refl, ℕ, zero, suc, ◌<◌, Bool, true, false, cond, not, ◌&&◌, ◌||◌, List, [], ◌∷◌, length, get_or, set, swap, IsPermutation, All, ℤ, pos, ◌+ℤ◌, ⊎_elim, arith, length-set, get_or-set_other, get_or-set_same}
use Rattle.std.proofs.lemmas.Int.{ints}
use Rattle.std.proofs.lemmas.Bool.{cases_eq}
use Rattle.std.proofs.lemmas.List.Edits.{swap_is}
use Rattle.std.proofs.lemmas.List.Elements.{All-cons, All-head, All-nil, All-tail}
use Rattle.std.proofs.lemmas.List.Sorted.{All-permutation, IsPermutation-keeps, list_any-IsPermutation}
use Rattle.std.specs.Cmp.{both_ways}
use Rattle.std.specs.Ordering.{is_lt}
use Rattle.soar_sym.specs.Equality.{symbol_eq}
use Rattle.soar_sym.specs.Order.{symbol_cmp}
use Rattle.soar_sym.specs.Words.{Texts, IsTable, IsKnown}
use Rattle.soar_sym.specs.declared.symbol.Sym.{Sym}
use Rattle.defs_soar.specs.declared.preference.PrefKind.{PrefKind}
use Rattle.defs_soar.specs.declared.preference.PrefKind.TheVariants as kind
use Rattle.defs_soar.specs.declared.preference.Preference.{Preference}
use Rattle.defs_soar.specs.Choice.{has_kind, number_in_row, says_of, sum_of, values_of}
use Rattle.defs_soar.specs.Sorted.{has_symbol, with_symbol}
use Rattle.defs_soar.specs.Values.{is_kind}
use Rattle.soar_choose.specs.Laws.{OrderCountsForNothing}
use Rattle.soar_choose.specs.Rows.{AreKnown, IsReferentKnown}
use Rattle.soar_choose.proofs.AcceptLemmas.{turned}
use Rattle.soar_choose.proofs.RisingLemmas.{rises_values, same_symbols}
use Rattle.soar_choose.proofs.LawLemmas.{symbol_same}
use Rattle.soar_choose.proofs.SameChoiceLemmas.{Agree, same_choice}

-- ---- sums

-- three steps of adding
exchanged : (a b c : ℤ) → (a +ℤ c) +ℤ b ≡ (b +ℤ c) +ℤ a
exchanged a b c = omega (arith, ints)

carried : (a b c d e : ℤ) → b +ℤ c ≡ d +ℤ e → (a +ℤ b) +ℤ c ≡ (a +ℤ d) +ℤ e
carried a b c d e h = omega (arith, ints)

cancelled : (a b c d e : ℤ) → a +ℤ c ≡ b +ℤ d → e +ℤ d ≡ a +ℤ c → e ≡ b
cancelled a b c d e h k = omega (arith, ints)

module _ {X : Type 0} (f : X → ℤ) where
  abbrev total : List X → ℤ
  total [] = pos 0
  total (x ∷ xs) = f x +ℤ total xs

  total_set : (xs : List X) (i : ℕ) (y d : X) → i < length xs → total (set xs i y) +ℤ f (get_or xs i d) ≡ total xs +ℤ f y
  total_set [] i y d lt = absurd (omega arith)
  total_set (x ∷ xs) zero y d lt = exchanged (f y) (f x) (total xs)
  total_set (x ∷ xs) (suc i) y d lt = carried (f x) (total (set xs i y)) (f (get_or xs i d)) (total xs) (f y) (total_set xs i y d (omega arith))

  -- two elements change places
  total_swap : (l : List X) (i j : ℕ) → i < length l → j < length l → total (swap l i j) ≡ total l
  total_swap [] i j p q = refl
  total_swap (d ∷ ds) i j p q =
      let l : List X = d ∷ ds in
      let w : List X = set l i (get_or l j d) in
      let long = length-set l i (get_or l j d) in
      let there : get_or w j d ≡ get_or l j d = ⊎_elim (λ e. ap (λ n. get_or w n d) e ∙ get_or-set_same l i (get_or l j d) d p) (λ n. get_or-set_other l i j (get_or l j d) d n) (cases_eq j i) in
      let first = total_set l i (get_or l j d) d p in
      let second = total_set w j (get_or l i d) d (omega arith) in
      ap total (sym (swap_is l i j d p q))
      ∙ cancelled (total w) (total l) (f (get_or l i d)) (f (get_or l j d)) (total (set w j (get_or l i d))) first (ap (λ z. total (set w j (get_or l i d)) +ℤ z) (sym (ap f there)) ∙ second)

  total_shuffled : (xs ys : List X) → IsPermutation xs ys → total ys ≡ total xs
  total_shuffled xs ys = IsPermutation-keeps xs (λ l. total l ≡ total xs) refl (λ l i j p q h. total_swap l i j p q ∙ h) ys

sum_total : (rows : List Preference) (v : Sym) → sum_of rows v ≡ total (number_in_row v) rows
sum_total [] v = refl
sum_total (row ∷ rows) v = ap (λ z. number_in_row v row +ℤ z) (sum_total rows v)

sum_shuffled : (rows others : List Preference) (v : Sym) → IsPermutation rows others → sum_of rows v ≡ sum_of others v
sum_shuffled rows others v same = sum_total rows v ∙ sym (total_shuffled (number_in_row v) rows others same) ∙ sym (sum_total others v)

-- ---- tests of all rows

kind_shuffled : (rows others : List Preference) (k : PrefKind) (v : Sym) → IsPermutation rows others → has_kind rows k v ≡ has_kind others k v
kind_shuffled rows others k v same = list_any-IsPermutation _ rows others same

says_shuffled : (rows others : List Preference) (k : PrefKind) (a b : Sym) → IsPermutation rows others → says_of rows k a b ≡ says_of others k a b
says_shuffled rows others k a b same = list_any-IsPermutation _ rows others same

-- ---- values

abbrev known_row : Texts → Preference → Type 0
known_row words row = IsKnown words row.wish.value × IsReferentKnown words row.wish.referent

each_known : (words : Texts) (rows : List Preference) → AreKnown words rows → All (known_row words) rows
each_known words [] h = All-nil (known_row words)
each_known words (row ∷ rows) h = All-cons (known_row words) row rows (h.0, h.1) (each_known words rows h.2)

all_known : (words : Texts) (rows : List Preference) → All (known_row words) rows → AreKnown words rows
all_known words [] h = tt
all_known words (row ∷ rows) h =
    let one = All-head (known_row words) row rows h in
    (one.0, one.1, all_known words rows (All-tail (known_row words) row rows h))

known_shuffled : (words : Texts) (rows others : List Preference) → AreKnown words rows → IsPermutation rows others → AreKnown words others
known_shuffled words rows others h same = all_known words others (All-permutation (known_row words) rows others same (each_known words rows h))

pub turn : (a b : Sym) → symbol_eq a b ≡ symbol_eq b a
turn a b = both_ways (symbol_eq a b) (symbol_eq b a) (turned a b) (turned b a)

has_with : (words : Texts) (symbols : List Sym) (s v : Sym) → has_symbol (with_symbol words symbols s) v ≡ (symbol_eq v s || has_symbol symbols v)
has_with words [] s v = refl
has_with words (t ∷ symbols) s v = by (symbol_eq s t) (is_lt (symbol_cmp words s t)) refl (has_with words symbols s v)
  where
    twice : (b c : Bool) → (b || c) ≡ (b || (b || c))
    twice true c = refl
    twice false c = refl

    past : (a b c : Bool) → (a || (b || c)) ≡ (b || (a || c))
    past true true c = refl
    past true false c = refl
    past false b c = refl

    by : (b d : Bool) → symbol_eq s t ≡ b → has_symbol (with_symbol words symbols s) v ≡ (symbol_eq v s || has_symbol symbols v)
        → has_symbol (cond b (t ∷ symbols) (cond d (s ∷ t ∷ symbols) (t ∷ with_symbol words symbols s))) v ≡ (symbol_eq v s || (symbol_eq v t || has_symbol symbols v))
    by true d e rest = twice (symbol_eq v t) (has_symbol symbols v) ∙ ap (λ u. symbol_eq v u || (symbol_eq v t || has_symbol symbols v)) (sym (symbol_same s t e))
    by false true e rest = refl
    by false false e rest = ap (λ b. symbol_eq v t || b) rest ∙ past (symbol_eq v t) (symbol_eq v s) (has_symbol symbols v)

pub has_values : (words : Texts) (k : PrefKind) (rows : List Preference) (v : Sym) → has_symbol (values_of words k rows) v ≡ has_kind rows k v
has_values words k [] v = refl
has_values words k (row ∷ rows) v = by (is_kind row.wish.kind k) (has_values words k rows v)
  where
    by : (b : Bool) → has_symbol (values_of words k rows) v ≡ has_kind rows k v
        → has_symbol (cond b (with_symbol words (values_of words k rows) row.wish.value) (values_of words k rows)) v ≡ ((b && symbol_eq row.wish.value v) || has_kind rows k v)
    by true rest =
        has_with words (values_of words k rows) row.wish.value v ∙ ap (λ b. b || has_symbol (values_of words k rows) v) (turn v row.wish.value) ∙ ap (λ b. symbol_eq row.wish.value v || b) rest
    by false rest = rest

values_shuffled : (words : Texts) (rows others : List Preference) (k : PrefKind) → IsTable words → AreKnown words rows → IsPermutation rows others → values_of words k rows ≡ values_of words k others
values_shuffled words rows others k table known same =
    same_symbols words (values_of words k rows) (values_of words k others) (rises_values words k rows table known) (rises_values words k others table (known_shuffled words rows others known same))
    (λ v. has_values words k rows v ∙ kind_shuffled rows others k v same ∙ sym (has_values words k others v))

-- ---- the choice

shuffled_agree : (words : Texts) (rows others : List Preference) → IsTable words → AreKnown words rows → IsPermutation rows others → Agree words rows others
shuffled_agree words rows others table known same = record {
  required = values_shuffled words rows others kind.Require table known same;
  accepted = values_shuffled words rows others kind.Accept table known same;
  prohibited = λ v. kind_shuffled rows others kind.Prohibit v same;
  rejected = λ v. kind_shuffled rows others kind.Reject v same;
  best = λ v. kind_shuffled rows others kind.Best v same;
  worst = λ v. kind_shuffled rows others kind.Worst v same;
  indifferent = λ v. kind_shuffled rows others kind.Indifferent v same;
  numeric = λ v. kind_shuffled rows others kind.Numeric v same;
  paired = λ a b. says_shuffled rows others kind.IndifferentTo a b same;
  better = λ a b i. not (symbol_eq a b) && (says_shuffled rows others kind.Better a b same i || says_shuffled rows others kind.Worse b a same i);
  sums = λ v. sum_shuffled rows others v same;
}

pub order_counts_for_nothing : OrderCountsForNothing
order_counts_for_nothing words rows others table known same = same_choice (shuffled_agree words rows others table known same)
