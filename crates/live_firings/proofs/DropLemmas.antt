-- The firings that pass a test go.
use Rattle.std.proofs.Common.{◌≡◌, ℕ, ◌^◌, ◌<◌, ◌≤◌, Bool, true, false, ◌&&◌, ◌||◌, ◌==◌, nat_lt, not, cond, List, [], ◌∷◌, filter, map, length, Option, Some, None, refl, sym, ap, subst, ◌∙◌, arith}
use Rattle.std.specs.BTreeMap.{is_at}
use Rattle.std.specs.List.{list_any}
use Rattle.std.specs.Map.{values_of, remove_entry}
use Rattle.std.specs.Ordering.{is_eq, nat_cmp}
use Rattle.std.proofs.lemmas.List.Elements.{filter_agree}
use Rattle.defs_soar.specs.declared.preference.Preference.{Preference}
use Rattle.defs_soar.specs.Preferences.{is_of_gone, without_firings}
use Rattle.defs_soar.specs.Trimming.{numbers_of}
use Rattle.soar_settle.proofs.FilterLemmas.{filter_twice, filter_all}
use Rattle.soar_settle.proofs.RenewalLemmas.{none_left, one_left}
use Rattle.live_firings.specs.declared.index.Index.{Index}
use Rattle.live_firings.specs.declared.live.Live.{Live}
use Rattle.live_firings.specs.Living.{live_above, live_from, live_seen, without_numbers}
use Rattle.live_firings.specs.Store.{IsDeep, IsNumbered, IsStore, Rows, deep_numbers, has, is_held, row_at}
use Rattle.live_firings.proofs.StoreLemmas.{absent_before, nat_is, self}

abbrev pub without : (Live → Bool) → Rows → List Live
without test rows = filter (λ l. not (test l)) (values_of rows)

module _ (test : Live → Bool) where
  pub without_one : (rows : Rows) (n : ℕ) → is_held test (row_at rows n) ≡ true → without test (remove_entry (is_at (nat_cmp n)) rows) ≡ without test rows
  without_one [] n held = refl
  without_one (e ∷ rows) n held = by (is_eq (nat_cmp n e.0)) held (without_one rows n)
    where
      by : (b : Bool) → is_held test (cond b (Some e.1) (row_at rows n)) ≡ true → (is_held test (row_at rows n) ≡ true → without test (remove_entry (is_at (nat_cmp n)) rows) ≡ without test rows)
          → without test (cond b rows (e ∷ remove_entry (is_at (nat_cmp n)) rows)) ≡ without test (e ∷ rows)
      by true h later = sym (ap (λ b. cond (not b) (e.1 ∷ without test rows) (without test rows)) h)
      by false h later = ap (λ es. cond (not (test e.1)) (e.1 ∷ es) es) (later h)

  pub fewer : (rows : Rows) (n : ℕ) → is_held test (row_at rows n) ≡ true → length (remove_entry (is_at (nat_cmp n)) rows) < length rows
  fewer [] n held = cc
  fewer (e ∷ rows) n held = by (is_eq (nat_cmp n e.0)) held (fewer rows n)
    where
      by : (b : Bool) → is_held test (cond b (Some e.1) (row_at rows n)) ≡ true → (is_held test (row_at rows n) ≡ true → length (remove_entry (is_at (nat_cmp n)) rows) < length rows)
          → length (cond b rows (e ∷ remove_entry (is_at (nat_cmp n)) rows)) < length (e ∷ rows)
      by true h later = omega arith
      by false h later = omega (arith, later h)

  pub none_pass : (next : ℕ) (rows : Rows) → IsNumbered next rows → ((n : ℕ) → n < next → is_held test (row_at rows n) ≡ false) → without test rows ≡ values_of rows
  none_pass next [] numbered none = refl
  none_pass next (e ∷ rows) numbered none =
      let head : test e.1 ≡ false = sym (ap (λ b. is_held test (cond b (Some e.1) (row_at rows e.0))) (self e.0)) ∙ none e.0 numbered.0 in
      ap (λ b. cond (not b) (e.1 ∷ without test rows) (without test rows)) head ∙ ap (λ es. e.1 ∷ es) (none_pass next rows numbered.2 (λ n less. by n less (is_eq (nat_cmp n e.0)) refl))
    where
      by : (n : ℕ) → n < next → (b : Bool) → is_eq (nat_cmp n e.0) ≡ b → is_held test (row_at rows n) ≡ false
      by n less true same = ap (is_held test) (ap (row_at rows) (nat_is n e.0 same) ∙ absent_before e.0 rows numbered.1)
      by n less false same = sym (ap (λ b. is_held test (cond b (Some e.1) (row_at rows n))) same) ∙ none n less

held_same : (p r : Live → Bool) → ((l : Live) → p l ≡ r l) → (o : Option Live) → is_held p o ≡ is_held r o
held_same p r same None = refl
held_same p r same (Some l) = same l

-- ---- a number

abbrev pub of_number : ℕ → Live → Bool
of_number number l = number == l.number

number_same : (m n : ℕ) → is_eq (nat_cmp m n) ≡ (n == m)
number_same m n = grind arith

number_held : (rows : Rows) (index : Index) (next mark number n : ℕ) → IsStore rows index next mark → has nat_cmp index.numbers.entries (number, n) ≡ is_held (of_number number) (row_at rows n)
number_held rows index next mark number n store = store.numbers (number, n) ∙ held_same (λ l. is_eq (nat_cmp l.number number)) (of_number number) (λ l. number_same l.number number) (row_at rows n)

pub number_dropped : (rows new_rows : Rows) (index : Index) (next mark number n : ℕ) → IsStore rows index next mark → has nat_cmp index.numbers.entries (number, n) ≡ true → new_rows ≡ remove_entry (is_at (nat_cmp n)) rows
    → without (of_number number) new_rows ≡ without (of_number number) rows
number_dropped rows new_rows index next mark number n store here is =
    ap (without (of_number number)) is ∙ without_one (of_number number) rows n (sym (number_held rows index next mark number n store) ∙ here)

pub number_fewer : (rows new_rows : Rows) (index : Index) (next mark number n : ℕ) → IsStore rows index next mark → has nat_cmp index.numbers.entries (number, n) ≡ true → new_rows ≡ remove_entry (is_at (nat_cmp n)) rows → length new_rows < length rows
number_fewer rows new_rows index next mark number n store here is =
    subst (λ es. length es < length rows) (sym is) (fewer (of_number number) rows n (sym (number_held rows index next mark number n store) ∙ here))

pub number_gone : (rows : Rows) (index : Index) (next mark number : ℕ) → IsStore rows index next mark → ((n : ℕ) → n < 2 ^ 64 → has nat_cmp index.numbers.entries (number, n) ≡ false) → without (of_number number) rows ≡ values_of rows
number_gone rows index next mark number store none =
    none_pass (of_number number) next rows store.numbered (λ n less. sym (number_held rows index next mark number n store) ∙ none n (omega (arith, less, store.small)))

-- ---- numbers, one after the other

pub one_without : (number : ℕ) (numbers : List ℕ) (live : List Live) → without_numbers numbers (filter (λ l. not (of_number number l)) live) ≡ without_numbers (number ∷ numbers) live
one_without number numbers live =
    filter_twice (λ l. not (list_any (λ n. n == l.number) numbers)) (λ l. not (of_number number l)) live
    ∙ filter_agree (λ l. not (of_number number l) && not (list_any (λ n. n == l.number) numbers)) (λ l. not (list_any (λ n. n == l.number) (number ∷ numbers))) (λ l. by (of_number number l) (list_any (λ n. n == l.number) numbers)) live
  where
    by : (a b : Bool) → (not a && not b) ≡ not (a || b)
    by true b = refl
    by false b = refl

pub none_without : (live : List Live) → without_numbers [] live ≡ live
none_without live = filter_all (λ l. not (list_any (λ n. n == l.number) [])) (λ l. refl) live

-- ---- the firings from a depth on

abbrev pub is_deep : ℕ → Live → Bool
is_deep depth l = not (nat_lt l.depth depth)

deep_at : (depth : ℕ) (l : Live) → depth ≤ l.depth → is_deep depth l ≡ true
deep_at depth l le = grind arith

at_deep : (depth : ℕ) (l : Live) → is_deep depth l ≡ true → depth ≤ l.depth
at_deep depth l h = grind arith

pub deep_held : (rows : Rows) (index : Index) (next mark depth n : ℕ) → IsStore rows index next mark → IsDeep depth index.depths.entries n → is_held (is_deep depth) (row_at rows n) ≡ true
deep_held rows index next mark depth n store found = by (row_at rows n) (sym (store.depths (found.at, n)) ∙ found.there)
  where
    by : (o : Option Live) → is_held (λ l. is_eq (nat_cmp l.depth found.at)) o ≡ true → is_held (is_deep depth) o ≡ true
    by None h = h
    by (Some l) h = deep_at depth l (subst (λ d. depth ≤ d) (sym (nat_is l.depth found.at h)) found.deep)

pub deep_gone : (rows : Rows) (index : Index) (next mark depth : ℕ) → IsStore rows index next mark → ((d n : ℕ) → depth ≤ d → has nat_cmp index.depths.entries (d, n) ≡ false) → without (is_deep depth) rows ≡ values_of rows
deep_gone rows index next mark depth store none = none_pass (is_deep depth) next rows store.numbered (λ n less. by n (row_at rows n) refl)
  where
    one : (n : ℕ) (l : Live) → row_at rows n ≡ Some l → (b : Bool) → is_deep depth l ≡ b → is_deep depth l ≡ false
    one n l is true deep =
        let bad : true ≡ false =
        sym (store.depths (l.depth, n) ∙ ap (is_held (λ x. is_eq (nat_cmp x.depth l.depth))) is ∙ self l.depth) ∙ none l.depth n (at_deep depth l deep) in
        absurd (cc)
    one n l is false deep = deep

    by : (n : ℕ) (o : Option Live) → row_at rows n ≡ o → is_held (is_deep depth) (row_at rows n) ≡ false
    by n None is = ap (is_held (is_deep depth)) is
    by n (Some l) is = ap (is_held (is_deep depth)) is ∙ one n l is (is_deep depth l) refl

pub above_is : (depth : ℕ) (live : List Live) → filter (λ l. not (is_deep depth l)) live ≡ filter (λ l. nat_lt l.depth depth) live
above_is depth live = filter_agree (λ l. not (is_deep depth l)) (λ l. nat_lt l.depth depth) (λ l. by (nat_lt l.depth depth)) live
  where
    by : (b : Bool) → not (not b) ≡ b
    by true = refl
    by false = refl

pub held_row : (test : Live → Bool) (o : Option Live) → is_held test o ≡ true → (l : Live) × (Some l ≡ o) × (test l ≡ true)
held_row test None h = absurd (cc)
held_row test (Some l) h = (l, refl, h)

pub deep_one : (rows new_rows : Rows) (depth n : ℕ) → is_held (is_deep depth) (row_at rows n) ≡ true → new_rows ≡ remove_entry (is_at (nat_cmp n)) rows → without (is_deep depth) new_rows ≡ without (is_deep depth) rows
deep_one rows new_rows depth n held is = ap (without (is_deep depth)) is ∙ without_one (is_deep depth) rows n held

pub deep_fewer : (rows new_rows : Rows) (depth n : ℕ) → is_held (is_deep depth) (row_at rows n) ≡ true → new_rows ≡ remove_entry (is_at (nat_cmp n)) rows → length new_rows < length rows
deep_fewer rows new_rows depth n held is = subst (λ es. length es < length rows) (sym is) (fewer (is_deep depth) rows n held)

-- as the definitions see them
pub seen_numbers : (depth : ℕ) (live : List Live) → deep_numbers depth live ≡ numbers_of (live_from depth (map live_seen live))
seen_numbers depth [] = refl
seen_numbers depth (l ∷ live) = by (nat_lt l.depth depth) (seen_numbers depth live)
  where
    by : (b : Bool) → deep_numbers depth live ≡ numbers_of (live_from depth (map live_seen live))
        → map (λ l. l.number) (cond (not b) (l ∷ filter (is_deep depth) live) (filter (is_deep depth) live)) ≡ numbers_of (cond (not b) (live_seen l ∷ live_from depth (map live_seen live)) (live_from depth (map live_seen live)))
    by true h = h
    by false h = ap (λ ns. l.number ∷ ns) h

pub seen_above : (depth : ℕ) (live : List Live) → map live_seen (filter (λ l. nat_lt l.depth depth) live) ≡ live_above depth (map live_seen live)
seen_above depth [] = refl
seen_above depth (l ∷ live) = by (nat_lt l.depth depth) (seen_above depth live)
  where
    by : (b : Bool) → map live_seen (filter (λ l. nat_lt l.depth depth) live) ≡ live_above depth (map live_seen live)
        → map live_seen (cond b (l ∷ filter (λ l. nat_lt l.depth depth) live) (filter (λ l. nat_lt l.depth depth) live)) ≡ cond b (live_seen l ∷ live_above depth (map live_seen live)) (live_above depth (map live_seen live))
    by true h = ap (λ ls. live_seen l ∷ ls) h
    by false h = h

-- ---- the rows that go with them

same_gone : (ms ns : List ℕ) → ((f : ℕ) → list_any (λ m. m == f) ms ≡ list_any (λ m. m == f) ns) → (rows : List Preference) → without_firings rows ms ≡ without_firings rows ns
same_gone ms ns same rows = filter_agree (λ row. not (is_of_gone ms row)) (λ row. not (is_of_gone ns row)) (λ row. by row.operator_support (list_any (λ m. m == row.firing) ms) (list_any (λ m. m == row.firing) ns) (same row.firing)) rows
  where
    by : (o a b : Bool) → a ≡ b → not (not o && a) ≡ not (not o && b)
    by o a b h = ap (λ x. not (not o && x)) h

abbrev deep_rows : ℕ → Rows → List ℕ
deep_rows depth rows = deep_numbers depth (values_of rows)

abbrev any_is : ℕ → List ℕ → Bool
any_is f ms = list_any (λ m. m == f) ms

one_of_deep : (depth : ℕ) (rows : Rows) (n : ℕ) (l : Live) (f : ℕ) → Some l ≡ row_at rows n → is_deep depth l ≡ true
    → list_any (λ m. m == f) (l.number ∷ deep_rows depth (remove_entry (is_at (nat_cmp n)) rows)) ≡ list_any (λ m. m == f) (deep_rows depth rows)
one_of_deep depth [] n l f was deep = absurd (cc)
one_of_deep depth (e ∷ rows) n l f was deep = by (is_eq (nat_cmp n e.0)) was (λ h. one_of_deep depth rows n l f h deep)
  where
    turned : (a b c d : Bool) → (a || c) ≡ d → (a || (b || c)) ≡ (b || d)
    turned true true c d h = refl
    turned true false c d h = h
    turned false true c d h = refl
    turned false false c d h = h

    with : (b : Bool) → ((l.number == f) || any_is f (deep_rows depth (remove_entry (is_at (nat_cmp n)) rows))) ≡ any_is f (deep_rows depth rows)
        → ((l.number == f) || any_is f (map (λ l. l.number) (cond b (e.1 ∷ filter (is_deep depth) (values_of (remove_entry (is_at (nat_cmp n)) rows))) (filter (is_deep depth) (values_of (remove_entry (is_at (nat_cmp n)) rows))))))
        ≡ any_is f (map (λ l. l.number) (cond b (e.1 ∷ filter (is_deep depth) (values_of rows)) (filter (is_deep depth) (values_of rows))))
    with true h = turned (l.number == f) (e.1.number == f) (any_is f (deep_rows depth (remove_entry (is_at (nat_cmp n)) rows))) (any_is f (deep_rows depth rows)) h
    with false h = h

    by : (b : Bool) → Some l ≡ cond b (Some e.1) (row_at rows n) → (Some l ≡ row_at rows n → any_is f (l.number ∷ deep_rows depth (remove_entry (is_at (nat_cmp n)) rows)) ≡ any_is f (deep_rows depth rows))
        → any_is f (l.number ∷ deep_rows depth (cond b rows (e ∷ remove_entry (is_at (nat_cmp n)) rows))) ≡ any_is f (deep_rows depth (e ∷ rows))
    by true was later =
        let own : l ≡ e.1 = cc in
        let test : is_deep depth e.1 ≡ true = subst (λ x. is_deep depth x ≡ true) own deep in
        ap (λ (x : Live). (x.number == f) || any_is f (deep_rows depth rows)) own
        ∙ sym (ap (λ b. any_is f (map (λ l. l.number) (cond b (e.1 ∷ filter (is_deep depth) (values_of rows)) (filter (is_deep depth) (values_of rows))))) test)
    by false was later = with (is_deep depth e.1) (later was)

-- with a firing from the depth on go its rows
pub deep_left : (depth : ℕ) (prefs : List Preference) (rows new_rows : Rows) (n : ℕ) (l : Live) → Some l ≡ row_at rows n → is_deep depth l ≡ true → new_rows ≡ remove_entry (is_at (nat_cmp n)) rows
    → without_firings (without_firings prefs (l.number ∷ [])) (deep_rows depth new_rows) ≡ without_firings prefs (deep_rows depth rows)
deep_left depth prefs rows new_rows n l was deep is =
    ap (λ es. without_firings (without_firings prefs (l.number ∷ [])) (deep_rows depth es)) is
    ∙ one_left prefs l.number (deep_rows depth (remove_entry (is_at (nat_cmp n)) rows))
    ∙ same_gone (l.number ∷ deep_rows depth (remove_entry (is_at (nat_cmp n)) rows)) (deep_rows depth rows) (λ f. one_of_deep depth rows n l f was deep) prefs

-- where none is left from the depth on, no row goes
pub none_deep_left : (depth : ℕ) (prefs : List Preference) (rows : Rows) → without (is_deep depth) rows ≡ values_of rows → without_firings prefs (deep_rows depth rows) ≡ prefs
none_deep_left depth prefs rows all = ap (λ (ms : List Live). without_firings prefs (map (λ l. l.number) ms)) nothing ∙ none_left prefs
  where
    never : (ls : List Live) → filter (is_deep depth) (filter (λ l. not (is_deep depth l)) ls) ≡ []
    never [] = refl
    never (l ∷ ls) = by (is_deep depth l) refl (never ls)
      where
        by : (b : Bool) → is_deep depth l ≡ b → filter (is_deep depth) (filter (λ l. not (is_deep depth l)) ls) ≡ []
            → filter (is_deep depth) (cond (not b) (l ∷ filter (λ l. not (is_deep depth l)) ls) (filter (λ l. not (is_deep depth l)) ls)) ≡ []
        by true e deep = deep
        by false e deep = ap (λ b. cond b (l ∷ filter (is_deep depth) (filter (λ l. not (is_deep depth l)) ls)) (filter (is_deep depth) (filter (λ l. not (is_deep depth l)) ls))) e ∙ deep

    nothing : filter (is_deep depth) (values_of rows) ≡ []
    nothing = ap (filter (is_deep depth)) (sym all) ∙ never (values_of rows)
