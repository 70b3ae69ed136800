-- The rows of a key, as the numbers under it tell.
use Rattle.std.proofs.Common.{◌≡◌, ℕ, ◌+◌, ◌-◌, ◌^◌, ◌<◌, ◌≤◌, nat_le, Bool, true, false, ◌&&◌, ◌||◌, not, cond, List, [], ◌∷◌, filter, filter_map, Option, Some, None, is_some, refl, sym, ap, ap₂, subst, ◌∙◌, arith}
use Rattle.std.specs.BTreeMap.{is_at}
use Rattle.std.specs.BTreeMap.Range.{range_contains}
use Rattle.std.specs.Cmp.{IsTotalOrder}
use Rattle.std.specs.List.{AllByRecursion, cons_option, list_any}
use Rattle.std.specs.List.Sorted.{IsStrictlySortedBy}
use Rattle.std.specs.Map.{keys_of, values_of}
use Rattle.std.specs.Ordering.{is_eq, is_le, is_lt, nat_cmp, ordering_then, ordering_reverse}
use Rattle.std.specs.declared.cmp.Ordering.{Ordering}
use Rattle.std.specs.declared.cmp.Ordering.TheVariants.{Less, Equal, Greater}
use Rattle.std.specs.declared.ops.Bound.TheVariants.{Included}
use Rattle.std.proofs.lemmas.Cmp.{tied_itself}
use Rattle.std.proofs.lemmas.List.Kept.{IsStrictlySortedBy-filter}
use Rattle.std.proofs.lemmas.Map.Entries.{lookup-filter-keys}
use Rattle.std.proofs.lemmas.Map.Lookups.{CmpEqualImpliesEq}
use Rattle.defs_soar.specs.declared.preference.Preference.{Preference}
use Rattle.soar_sym.specs.declared.symbol.Sym.{Sym}
use Rattle.soar_wm.proofs.EntryLemmas.{same_entries}
use Rattle.soar_wm.proofs.KeyLemmas.{nat_same, nat_is, then_same}
use Rattle.soar_prefs.specs.declared.index.Index.{Index}
use Rattle.soar_prefs.specs.declared.key.Key.{Key}
use Rattle.soar_prefs.specs.declared.key.Key.TheVariants.{Variablized, Triple}
use Rattle.soar_prefs.specs.Places.{Places, place_cmp, stands, of_key, slot_cmp, triple_cmp}
use Rattle.soar_prefs.specs.Store.{is_of, Rows, row_at, is_held, IsBefore, IsNumbered, IsStore}
use Rattle.soar_prefs.proofs.KeyLemmas.{place_total, place_exact, later_place, slot_total, slot_exact, triple_total, triple_exact}
use Rattle.soar_prefs.proofs.MarkLemmas.{at_place}
use Rattle.soar_prefs.proofs.StoreLemmas.{absent_before, fresh_above, self}

-- each of the rows is found
AreFound : Rows → Rows → Type 0
AreFound all [] = Unit {0}
AreFound all (e ∷ rows) = (row_at all e.0 ≡ Some e.1) × AreFound all rows

found_later : (e : ℕ × Preference) (all rows : Rows) → IsBefore e.0 rows → AreFound all rows → AreFound (e ∷ all) rows
unfolding AreFound
found_later e all [] before found = tt
found_later e all (x ∷ rows) before found = (ap (λ b. cond b (Some e.1) (row_at all x.0)) (apart x.0 e.0 before.0) ∙ found.0, found_later e all rows before.1 found.1)
  where
    apart : (m n : ℕ) → n < m → is_eq (nat_cmp m n) ≡ false
    apart m n h = grind arith

all_found : (next : ℕ) (rows : Rows) → IsNumbered next rows → AreFound rows rows
unfolding AreFound
all_found next [] numbered = tt
all_found next (e ∷ rows) numbered = (ap (λ b. cond b (Some e.1) (row_at rows e.0)) (self e.0), found_later e rows rows numbered.1 (all_found next rows numbered.2))

keys_filter : {K X : Type 0} (p : K → Bool) (es : List (K × X)) → keys_of (filter (λ e. p e.0) es) ≡ filter p (keys_of es)
keys_filter p [] = refl
keys_filter {K} {X} p (e ∷ es) = by (p e.0) (keys_filter p es)
  where
    by : (b : Bool) → keys_of (filter (λ (x : K × X). p x.0) es) ≡ filter p (keys_of es) → keys_of (cond b (e ∷ filter (λ (x : K × X). p x.0) es) (filter (λ (x : K × X). p x.0) es)) ≡ cond b (e.0 ∷ filter p (keys_of es)) (filter p (keys_of es))
    by true h = ap (λ l. e.0 ∷ l) h
    by false h = h

flag : Bool → Option (Unit {0})
flag true = Some tt
flag false = None

flagged : (o : Option (Unit {0})) (b : Bool) → is_some o ≡ b → o ≡ flag b
unfolding flag
flagged None true h = cc
flagged None false h = refl
flagged (Some u) true h = refl
flagged (Some u) false h = cc

-- ---- keys of one kind, each of them one by which rows are found

module _ {K : Type 0} {cmp : K → K → Ordering} (total : IsTotalOrder cmp) (exact : CmpEqualImpliesEq cmp) (key_of : K → Key) where
  -- what has to stand under the key
  made : K → Rows → Places K
  made key [] = []
  made key (e ∷ rows) = cond (is_of (key_of key) e.1) (((key, e.0), tt) ∷ made key rows) (made key rows)

  made_rows : (key : K) (all rows : Rows) → AreFound all rows → filter_map (λ e. row_at all e.0.1) (made key rows) ≡ filter (is_of (key_of key)) (values_of rows)
  unfolding made AreFound
  made_rows key all [] found = refl
  made_rows key all (e ∷ rows) found = by (is_of (key_of key) e.1) (made_rows key all rows found.1)
    where
      by : (b : Bool) → filter_map (λ e. row_at all e.0.1) (made key rows) ≡ filter (is_of (key_of key)) (values_of rows)
          → filter_map (λ e. row_at all e.0.1) (cond b (((key, e.0), tt) ∷ made key rows) (made key rows)) ≡ cond b (e.1 ∷ filter (is_of (key_of key)) (values_of rows)) (filter (is_of (key_of key)) (values_of rows))
      by true h = ap (λ o. cons_option o (filter_map (λ e. row_at all e.0.1) (made key rows))) found.0 ∙ ap (λ es. e.1 ∷ es) h
      by false h = h

  -- in order

  made_above : (key : K) (n : ℕ) (rows : Rows) → IsBefore n rows → AllByRecursion (λ q. place_cmp cmp (key, n) q ≡ Less) (keys_of (made key rows))
  unfolding made
  made_above key n [] before = tt
  made_above key n (e ∷ rows) before = by (is_of (key_of key) e.1) (made_above key n rows before.1)
    where
      by : (b : Bool) → AllByRecursion (λ q. place_cmp cmp (key, n) q ≡ Less) (keys_of (made key rows))
          → AllByRecursion (λ q. place_cmp cmp (key, n) q ≡ Less) (keys_of (cond b (((key, e.0), tt) ∷ made key rows) (made key rows)))
      by true h = (later_place total key n e.0 before.0, h)
      by false h = h

  made_sorted : (key : K) (next : ℕ) (rows : Rows) → IsNumbered next rows → IsStrictlySortedBy (place_cmp cmp) (keys_of (made key rows))
  unfolding made IsStrictlySortedBy
  made_sorted key next [] numbered = tt
  made_sorted key next (e ∷ rows) numbered = by (is_of (key_of key) e.1) (made_sorted key next rows numbered.2)
    where
      by : (b : Bool) → IsStrictlySortedBy (place_cmp cmp) (keys_of (made key rows)) → IsStrictlySortedBy (place_cmp cmp) (keys_of (cond b (((key, e.0), tt) ∷ made key rows) (made key rows)))
      by true h = (made_above key e.0 rows numbered.1, h)
      by false h = h

  -- at each place

  made_has : (key : K) (next : ℕ) (rows : Rows) (q : K × ℕ) → IsNumbered next rows → stands cmp (made key rows) q ≡ (is_eq (cmp q.0 key) && is_held (key_of key) (row_at rows q.1))
  unfolding made
  made_has key next [] q numbered = none (is_eq (cmp q.0 key))
    where
      none : (b : Bool) → false ≡ (b && false)
      none true = refl
      none false = refl
  made_has key next (e ∷ rows) q numbered = by (is_of (key_of key) e.1) refl (made_has key next rows q numbered.2)
    where
      rest : Option Preference
      rest = row_at rows q.1

      both : (s n : Bool) (deep : Option (Unit {0})) → is_some deep ≡ (s && is_held (key_of key) rest) → is_of (key_of key) e.1 ≡ true
          → is_some (cond (s && n) (Some tt) deep) ≡ (s && is_held (key_of key) (cond n (Some e.1) rest))
      both true true deep h own = sym own
      both true false deep h own = h
      both false n deep h own = h

      one : (s n : Bool) → (n ≡ true → rest ≡ None) → is_of (key_of key) e.1 ≡ false → (s && is_held (key_of key) rest) ≡ (s && is_held (key_of key) (cond n (Some e.1) rest))
      one true true absent own = ap (is_held (key_of key)) (absent refl) ∙ sym own
      one true false absent own = refl
      one false n absent own = refl

      by : (b : Bool) → is_of (key_of key) e.1 ≡ b → stands cmp (made key rows) q ≡ (is_eq (cmp q.0 key) && is_held (key_of key) rest)
          → stands cmp (cond b (((key, e.0), tt) ∷ made key rows) (made key rows)) q ≡ (is_eq (cmp q.0 key) && is_held (key_of key) (cond (is_eq (nat_cmp q.1 e.0)) (Some e.1) rest))
      by true own h =
          ap (λ b. is_some (cond b (Some tt) (at_place cmp (made key rows) q))) (then_same (cmp q.0 key) (nat_cmp q.1 e.0))
          ∙ both (is_eq (cmp q.0 key)) (is_eq (nat_cmp q.1 e.0)) (at_place cmp (made key rows) q) h own
      by false own h =
          h ∙ one (is_eq (cmp q.0 key)) (is_eq (nat_cmp q.1 e.0)) (λ is. ap (row_at rows) (nat_is q.1 e.0 (sym (nat_same q.1 e.0) ∙ is)) ∙ absent_before e.0 rows numbered.1) own

  in_range : K → K × ℕ → Bool
  in_range key q = range_contains (place_cmp cmp) (Included (key, 0)) (Included (key, 2 ^ 64 - 1)) q

  equal : (o : Ordering) → is_eq o ≡ true → o ≡ Equal
  equal Less h = cc
  equal Equal h = refl
  equal Greater h = cc

  outside : (key : K) (q : K × ℕ) → is_eq (cmp q.0 key) ≡ false → in_range key q ≡ false
  unfolding in_range
  outside key q other = by (cmp key q.0) (turned (cmp key q.0) (ap is_eq (sym (total.antisymm q.0 key)) ∙ other))
    where
      turned : (o : Ordering) → is_eq (ordering_reverse o) ≡ false → is_eq o ≡ false
      turned Less h = refl
      turned Equal h = h
      turned Greater h = refl

      by : (o : Ordering) → is_eq o ≡ false → (is_le (ordering_then o (nat_cmp 0 q.1)) && not (is_lt (ordering_then o (nat_cmp (2 ^ 64 - 1) q.1)))) ≡ false
      by Less h = refl
      by Equal h = absurd (cc)
      by Greater h = refl

  inside : (key : K) (n : ℕ) → n < 2 ^ 64 → in_range key (key, n) ≡ true
  unfolding in_range
  inside key n small =
      ap (λ o. is_le (ordering_then o (nat_cmp 0 n)) && not (is_lt (ordering_then o (nat_cmp (2 ^ 64 - 1) n)))) (tied_itself total key) ∙ ap₂ (λ a b. a && not b) (from n) (upto (2 ^ 64 - 1) n (omega (arith, small)))
    where
      from : (n : ℕ) → is_le (nat_cmp 0 n) ≡ true
      from n = grind arith

      upto : (m n : ℕ) → n ≤ m → is_lt (nat_cmp m n) ≡ false
      upto m n h = grind arith

  -- each row stands under its key, and nothing else does
  abbrev pub IsFound : Rows → Places K → Type 0
  IsFound rows places = (q : K × ℕ) → stands cmp places q ≡ is_held (key_of q.0) (row_at rows q.1)

  range_has : (rows : Rows) (places : Places K) (next : ℕ) (key : K) (q : K × ℕ) → IsNumbered next rows → next < 2 ^ 64 → IsFound rows places
      → stands cmp (of_key cmp key places) q ≡ (is_eq (cmp q.0 key) && is_held (key_of key) (row_at rows q.1))
  unfolding in_range
  range_has rows places next key q numbered bound found =
      ap is_some (lookup-filter-keys (is_at (place_cmp cmp q)) (in_range key) (in_range key q) (λ k same. ap (in_range key) (sym (place_exact exact q k (equal (place_cmp cmp q k) same)))) places)
      ∙ some (in_range key q) (at_place cmp places q) ∙ ap (λ b. in_range key q && b) (found q) ∙ by (is_eq (cmp q.0 key)) refl
    where
      some : (b : Bool) (o : Option (Unit {0})) → is_some (cond b o None) ≡ (b && is_some o)
      some true o = refl
      some false o = refl

      below : (m n : ℕ) → nat_le (m + 1) n ≡ true → m < n
      below m n h = grind arith

      above_all : (m n : ℕ) → nat_le (m + 1) n ≡ false → n ≤ m
      above_all m n h = grind arith

      none : (b : Bool) → (b && false) ≡ false
      none true = refl
      none false = refl

      large : (b : Bool) → nat_le (q.1 + 1) (2 ^ 64) ≡ b → (in_range key (key, q.1) && is_held (key_of key) (row_at rows q.1)) ≡ is_held (key_of key) (row_at rows q.1)
      large true h = ap (λ b. b && is_held (key_of key) (row_at rows q.1)) (inside key q.1 (below q.1 (2 ^ 64) h))
      large false h =
          let nothing : row_at rows q.1 ≡ None = fresh_above next q.1 rows numbered (omega (arith, above_all q.1 (2 ^ 64) h, bound)) in
          ap (λ o. in_range key (key, q.1) && is_held (key_of key) o) nothing ∙ none (in_range key (key, q.1)) ∙ sym (ap (is_held (key_of key)) nothing)

      by : (b : Bool) → is_eq (cmp q.0 key) ≡ b → (in_range key q && is_held (key_of q.0) (row_at rows q.1)) ≡ (b && is_held (key_of key) (row_at rows q.1))
      by true h = ap (λ k. in_range key (k, q.1) && is_held (key_of k) (row_at rows q.1)) (exact q.0 key (equal (cmp q.0 key) h)) ∙ large (nat_le (q.1 + 1) (2 ^ 64)) refl
      by false h = ap (λ b. b && is_held (key_of q.0) (row_at rows q.1)) (outside key q h)

  rows_found : (rows : Rows) (places : Places K) (next : ℕ) (key : K) → IsNumbered next rows → next < 2 ^ 64 → IsFound rows places → IsStrictlySortedBy (place_cmp cmp) (keys_of places)
      → filter_map (λ e. row_at rows e.0.1) (of_key cmp key places) ≡ filter (is_of (key_of key)) (values_of rows)
  unfolding in_range
  rows_found rows places next key numbered bound found ordered =
      let same : of_key cmp key places ≡ made key rows
      = same_entries (place_total total) (place_exact exact) (of_key cmp key places) (made key rows)
      (subst (IsStrictlySortedBy (place_cmp cmp)) (sym (keys_filter (in_range key) places)) (IsStrictlySortedBy-filter (place_cmp cmp) (in_range key) (keys_of places) ordered))
      (made_sorted key next rows numbered)
      (λ q. flagged (at_place cmp (of_key cmp key places) q) _ (range_has rows places next key q numbered bound found) ∙ sym (flagged (at_place cmp (made key rows) q) _ (made_has key next rows q numbered))) in
      ap (filter_map (λ e. row_at rows e.0.1)) same ∙ made_rows key rows rows (all_found next rows numbered)

-- ---- the rows of a slot and of a triple, by the numbers under them

pub slot_rows : (rows : Rows) (numbers : Index) (next : ℕ) (id attr : Sym) → IsStore rows numbers next → IsStrictlySortedBy (place_cmp slot_cmp) (keys_of numbers.slots.entries)
    → filter_map (λ e. row_at rows e.0.1) (of_key slot_cmp (id, attr) numbers.slots.entries) ≡ filter (is_of (Variablized id attr)) (values_of rows)
slot_rows rows numbers next id attr store ordered =
    rows_found slot_total slot_exact (λ key. Variablized key.0 key.1) rows numbers.slots.entries next (id, attr) store.numbered store.small (λ q. store.found (Variablized q.0.0 q.0.1, q.1)) ordered

pub triple_rows : (rows : Rows) (numbers : Index) (next : ℕ) (id attr value : Sym) → IsStore rows numbers next → IsStrictlySortedBy (place_cmp triple_cmp) (keys_of numbers.triples.entries)
    → filter_map (λ e. row_at rows e.0.1) (of_key triple_cmp (id, attr, value) numbers.triples.entries) ≡ filter (is_of (Triple id attr value)) (values_of rows)
triple_rows rows numbers next id attr value store ordered =
    rows_found triple_total triple_exact (λ key. Triple key.0 key.1 key.2) rows numbers.triples.entries next (id, attr, value) store.numbered store.small (λ q. store.found (Triple q.0.0 q.0.1 q.0.2, q.1)) ordered

-- a test that only such rows pass
pub any_of : (p test : Preference → Bool) → ((row : Preference) → test row ≡ true → p row ≡ true) → (rows : List Preference) → list_any test (filter p rows) ≡ list_any test rows
any_of p test only [] = refl
any_of p test only (row ∷ rows) = by (test row) (p row) refl refl (any_of p test only rows)
  where
    by : (t b : Bool) → test row ≡ t → p row ≡ b → list_any test (filter p rows) ≡ list_any test rows → list_any test (cond b (row ∷ filter p rows) (filter p rows)) ≡ list_any test (row ∷ rows)
    by t true e f h = ap (λ r. test row || r) h
    by true false e f h = (let bad : true ≡ false = sym (only row e) ∙ f in absurd (cc))
    by false false e f h = h ∙ sym (ap (λ b. b || list_any test rows) e)

-- a test of such rows
pub any_within : (p test : Preference → Bool) (rows : List Preference) → list_any test (filter p rows) ≡ list_any (λ row. test row && p row) rows
any_within p test [] = refl
any_within p test (row ∷ rows) = by (p row) ∙ ap (λ b. (test row && p row) || b) (any_within p test rows)
  where
    with : (t c : Bool) → (t || c) ≡ ((t && true) || c)
    with true c = refl
    with false c = refl

    without : (t c : Bool) → c ≡ ((t && false) || c)
    without true c = refl
    without false c = refl

    by : (b : Bool) → list_any test (cond b (row ∷ filter p rows) (filter p rows)) ≡ ((test row && b) || list_any test (filter p rows))
    by true = with (test row) (list_any test (filter p rows))
    by false = without (test row) (list_any test (filter p rows))
