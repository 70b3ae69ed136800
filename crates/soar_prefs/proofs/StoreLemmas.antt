-- Rows by number come and go.
use Rattle.std.proofs.Common.{◌≡◌, ℕ, ◌+◌, ◌^◌, ◌<◌, ◌≤◌, Bool, true, false, ◌&&◌, ◌==◌, not, cond, List, [], ◌∷◌, ◌++◌, filter, length, Some, None, refl, sym, ap, subst, ◌∙◌, arith}
use Rattle.std.specs.BTreeMap.{insert_entry, is_at}
use Rattle.std.specs.Map.{values_of, remove_entry}
use Rattle.std.specs.Ordering.{is_eq, nat_cmp, match_ordering}
use Rattle.std.specs.declared.cmp.Ordering.TheVariants.{Greater}
use Rattle.std.proofs.lemmas.List.{map-append}
use Rattle.defs_soar.specs.declared.preference.Preference.{Preference}
use Rattle.soar_wm.proofs.KeyLemmas.{nat_same, nat_is}
use Rattle.soar_prefs.specs.declared.index.Index.{Index}
use Rattle.soar_prefs.specs.declared.key.Key.{Key}
use Rattle.soar_prefs.specs.Store.{is_of, Rows, row_at, has, is_own, Marks, is_held, IsBefore, IsNumbered, IsStore}

pub apart : (m n : ℕ) → n < m → is_eq (nat_cmp m n) ≡ false
apart m n h = grind arith

apart_below : (m n : ℕ) → m < n → is_eq (nat_cmp m n) ≡ false
apart_below m n h = grind arith

greater : (m n : ℕ) → n < m → nat_cmp m n ≡ Greater
greater m n h = grind arith

-- no row has the next number
fresh : (next : ℕ) (rows : Rows) → IsNumbered next rows → row_at rows next ≡ None
fresh next [] numbered = refl
fresh next (e ∷ rows) numbered = ap (λ b. cond b (Some e.1) (row_at rows next)) (apart next e.0 numbered.0) ∙ fresh next rows numbered.2

pub fresh_above : (next n : ℕ) (rows : Rows) → IsNumbered next rows → next ≤ n → row_at rows n ≡ None
fresh_above next n [] numbered le = refl
fresh_above next n (e ∷ rows) numbered le = ap (λ b. cond b (Some e.1) (row_at rows n)) (apart n e.0 (omega (arith, numbered.0, le))) ∙ fresh_above next n rows numbered.2 le

-- one row more

pub at_end : (next : ℕ) (rows : Rows) (row : Preference) → IsNumbered next rows → insert_entry nat_cmp rows next row ≡ rows ++ (next, row) ∷ []
at_end next [] row numbered = refl
at_end next (e ∷ rows) row numbered =
    ap (λ o. match_ordering o ((next, row) ∷ e ∷ rows) ((e.0, row) ∷ rows) (e ∷ insert_entry nat_cmp rows next row)) (greater next e.0 numbered.0) ∙ ap (λ es. e ∷ es) (at_end next rows row numbered.2)

before_push : (n m : ℕ) (rows : Rows) (row : Preference) → IsBefore n rows → n < m → IsBefore n (rows ++ (m, row) ∷ [])
before_push n m [] row before less = (less, tt)
before_push n m (e ∷ rows) row before less = (before.0, before_push n m rows row before.1 less)

numbered_push : (next : ℕ) (rows : Rows) (row : Preference) → IsNumbered next rows → IsNumbered (next + 1) (rows ++ (next, row) ∷ [])
numbered_push next [] row numbered = (omega arith, tt, tt)
numbered_push next (e ∷ rows) row numbered = (omega (arith, numbered.0), before_push e.0 next rows row numbered.1 numbered.0, numbered_push next rows row numbered.2)

pub values_push : (next : ℕ) (rows new_rows : Rows) (row : Preference) → IsNumbered next rows → new_rows ≡ insert_entry nat_cmp rows next row → values_of new_rows ≡ values_of rows ++ row ∷ []
values_push next rows new_rows row numbered is = ap values_of (is ∙ at_end next rows row numbered) ∙ map-append (λ e. e.1) rows ((next, row) ∷ [])

pub stored : (rows new_rows : Rows) (numbers new_numbers : Index) (next later : ℕ) (row : Preference) → IsStore rows numbers next → later ≡ next + 1 → later < 2 ^ 64 → new_rows ≡ insert_entry nat_cmp rows next row
    → ((n : ℕ) → row_at new_rows n ≡ cond (is_eq (nat_cmp next n)) (Some row) (row_at rows n)) → Marks row next true numbers new_numbers → IsStore new_rows new_numbers later
stored rows new_rows numbers new_numbers next later row store next_is small is up marks = record {
  numbered = subst (λ n. IsNumbered n new_rows) (sym next_is) (subst (IsNumbered (next + 1)) (sym (is ∙ at_end next rows row store.numbered)) (numbered_push next rows row store.numbered));
  small = small;
  found = λ q.
      marks q ∙ ap (λ b. cond (is_own row next q) true b) (store.found q) ∙ by q (next == q.1) refl
      ∙ sym (ap (is_held q.0) (up q.1 ∙ ap (λ b. cond b (Some row) (row_at rows q.1)) (nat_same next q.1)));
}
  where
    here : (b : Bool) → cond (b && true) true false ≡ b
    here true = refl
    here false = refl

    there : (b c : Bool) → cond (b && false) true c ≡ c
    there true c = refl
    there false c = refl

    by : (q : Key × ℕ) (b : Bool) → (next == q.1) ≡ b → cond (is_of q.0 row && b) true (is_held q.0 (row_at rows q.1)) ≡ is_held q.0 (cond b (Some row) (row_at rows q.1))
    by q true h = ap (λ o. cond (is_of q.0 row && true) true (is_held q.0 o)) (sym (ap (row_at rows) (nat_is next q.1 h)) ∙ fresh next rows store.numbered) ∙ here (is_of q.0 row)
    by q false h = there (is_of q.0 row) (is_held q.0 (row_at rows q.1))

-- no row more
pub kept : (rows new_rows : Rows) (numbers new_numbers : Index) (next : ℕ) (row : Preference) → IsStore rows numbers next → new_rows ≡ rows → Marks row next false numbers new_numbers → IsStore new_rows new_numbers next
kept rows new_rows numbers new_numbers next row store same marks =
    subst (λ es. IsStore es new_numbers next) (sym same)
    (record {
      numbered = store.numbered;
      small = store.small;
      found = λ q. marks q ∙ ap (λ b. cond (is_own row next q) false b) (store.found q) ∙ by q (next == q.1) refl;
    })
  where
    here : (b : Bool) → cond (b && true) false false ≡ false
    here true = refl
    here false = refl

    there : (b c : Bool) → cond (b && false) false c ≡ c
    there true c = refl
    there false c = refl

    by : (q : Key × ℕ) (b : Bool) → (next == q.1) ≡ b → cond (is_of q.0 row && b) false (is_held q.0 (row_at rows q.1)) ≡ is_held q.0 (row_at rows q.1)
    by q true h =
        let none : row_at rows q.1 ≡ None = sym (ap (row_at rows) (nat_is next q.1 h)) ∙ fresh next rows store.numbered in
        ap (λ o. cond (is_of q.0 row && true) false (is_held q.0 o)) none ∙ here (is_of q.0 row) ∙ sym (ap (is_held q.0) none)
    by q false h = there (is_of q.0 row) (is_held q.0 (row_at rows q.1))

pub put_back : (row : Preference) (n : ℕ) (h0 h1 h2 : Index) → Marks row n true h0 h1 → Marks row n false h1 h2 → Marks row n false h0 h2
put_back row n h0 h1 h2 up down q = down q ∙ ap (λ b. cond (is_own row n q) false b) (up q) ∙ by (is_own row n q)
  where
    by : (b : Bool) → cond b false (cond b true (has h0 q)) ≡ cond b false (has h0 q)
    by true = refl
    by false = refl

-- one row less

before_gone : (n m : ℕ) (rows : Rows) → IsBefore n rows → IsBefore n (remove_entry (is_at (nat_cmp m)) rows)
before_gone n m [] before = tt
before_gone n m (e ∷ rows) before = by (is_eq (nat_cmp m e.0)) (before_gone n m rows before.1)
  where
    by : (b : Bool) → IsBefore n (remove_entry (is_at (nat_cmp m)) rows) → IsBefore n (cond b rows (e ∷ remove_entry (is_at (nat_cmp m)) rows))
    by true h = before.1
    by false h = (before.0, h)

numbered_gone : (next m : ℕ) (rows : Rows) → IsNumbered next rows → IsNumbered next (remove_entry (is_at (nat_cmp m)) rows)
numbered_gone next m [] numbered = tt
numbered_gone next m (e ∷ rows) numbered = by (is_eq (nat_cmp m e.0)) (numbered_gone next m rows numbered.2)
  where
    by : (b : Bool) → IsNumbered next (remove_entry (is_at (nat_cmp m)) rows) → IsNumbered next (cond b rows (e ∷ remove_entry (is_at (nat_cmp m)) rows))
    by true h = numbered.2
    by false h = (numbered.0, before_gone e.0 m rows numbered.1, h)

pub gone : (rows new_rows : Rows) (numbers new_numbers : Index) (next n : ℕ) (row : Preference) → IsStore rows numbers next → Some row ≡ row_at rows n → new_rows ≡ remove_entry (is_at (nat_cmp n)) rows
    → ((m : ℕ) → row_at new_rows m ≡ cond (is_eq (nat_cmp n m)) None (row_at rows m)) → Marks row n false numbers new_numbers → IsStore new_rows new_numbers next
gone rows new_rows numbers new_numbers next n row store was is up marks = record {
  numbered = subst (IsNumbered next) (sym is) (numbered_gone next n rows store.numbered);
  small = store.small;
  found = λ q.
      marks q ∙ ap (λ b. cond (is_own row n q) false b) (store.found q) ∙ by q (n == q.1) refl
      ∙ sym (ap (is_held q.0) (up q.1 ∙ ap (λ b. cond b None (row_at rows q.1)) (nat_same n q.1)));
}
  where
    here : (b : Bool) → cond (b && true) false b ≡ false
    here true = refl
    here false = refl

    there : (b c : Bool) → cond (b && false) false c ≡ c
    there true c = refl
    there false c = refl

    by : (q : Key × ℕ) (b : Bool) → (n == q.1) ≡ b → cond (is_of q.0 row && b) false (is_held q.0 (row_at rows q.1)) ≡ is_held q.0 (cond b None (row_at rows q.1))
    by q true h = ap (λ o. cond (is_of q.0 row && true) false (is_held q.0 o)) (sym (ap (row_at rows) (nat_is n q.1 h)) ∙ sym was) ∙ here (is_of q.0 row)
    by q false h = there (is_of q.0 row) (is_held q.0 (row_at rows q.1))

-- ---- the rows of a key

abbrev pub without : Key → Rows → List Preference
without key rows = filter (λ row. not (is_of key row)) (values_of rows)

without_one : (key : Key) (rows : Rows) (n : ℕ) → is_held key (row_at rows n) ≡ true → without key (remove_entry (is_at (nat_cmp n)) rows) ≡ without key rows
without_one key [] n held = refl
without_one key (e ∷ rows) n held = by (is_eq (nat_cmp n e.0)) held (without_one key rows n)
  where
    by : (b : Bool) → is_held key (cond b (Some e.1) (row_at rows n)) ≡ true → (is_held key (row_at rows n) ≡ true → without key (remove_entry (is_at (nat_cmp n)) rows) ≡ without key rows)
        → without key (cond b rows (e ∷ remove_entry (is_at (nat_cmp n)) rows)) ≡ without key (e ∷ rows)
    by true h later = sym (ap (λ b. cond (not b) (e.1 ∷ without key rows) (without key rows)) h)
    by false h later = ap (λ es. cond (not (is_of key e.1)) (e.1 ∷ es) es) (later h)

fewer : (key : Key) (rows : Rows) (n : ℕ) → is_held key (row_at rows n) ≡ true → length (remove_entry (is_at (nat_cmp n)) rows) < length rows
fewer key [] n held = cc
fewer key (e ∷ rows) n held = by (is_eq (nat_cmp n e.0)) held (fewer key rows n)
  where
    by : (b : Bool) → is_held key (cond b (Some e.1) (row_at rows n)) ≡ true → (is_held key (row_at rows n) ≡ true → length (remove_entry (is_at (nat_cmp n)) rows) < length rows)
        → length (cond b rows (e ∷ remove_entry (is_at (nat_cmp n)) rows)) < length (e ∷ rows)
    by true h later = omega arith
    by false h later = omega (arith, later h)

-- the row of a number that stands under the key is one of it
pub dropped : (rows new_rows : Rows) (numbers : Index) (next : ℕ) (key : Key) (n : ℕ) → IsStore rows numbers next → has numbers (key, n) ≡ true → new_rows ≡ remove_entry (is_at (nat_cmp n)) rows → without key new_rows ≡ without key rows
dropped rows new_rows numbers next key n store here is = ap (without key) is ∙ without_one key rows n (sym (store.found (key, n)) ∙ here)

pub dropped_fewer : (rows new_rows : Rows) (numbers : Index) (next : ℕ) (key : Key) (n : ℕ) → IsStore rows numbers next → has numbers (key, n) ≡ true → new_rows ≡ remove_entry (is_at (nat_cmp n)) rows → length new_rows < length rows
dropped_fewer rows new_rows numbers next key n store here is = subst (λ es. length es < length rows) (sym is) (fewer key rows n (sym (store.found (key, n)) ∙ here))

-- where no number stands under the key, no row is of it

pub absent_before : (n : ℕ) (rows : Rows) → IsBefore n rows → row_at rows n ≡ None
absent_before n [] before = refl
absent_before n (e ∷ rows) before = ap (λ b. cond b (Some e.1) (row_at rows n)) (apart_below n e.0 before.0) ∙ absent_before n rows before.1

pub self : (n : ℕ) → is_eq (nat_cmp n n) ≡ true
self n = grind arith

none_left : (key : Key) (next : ℕ) (rows : Rows) → IsNumbered next rows → ((n : ℕ) → n < next → is_held key (row_at rows n) ≡ false) → without key rows ≡ values_of rows
none_left key next [] numbered none = refl
none_left key next (e ∷ rows) numbered none =
    let head : is_of key e.1 ≡ false = sym (ap (λ b. is_held key (cond b (Some e.1) (row_at rows e.0))) (self e.0)) ∙ none e.0 numbered.0 in
    ap (λ b. cond (not b) (e.1 ∷ without key rows) (without key rows)) head ∙ ap (λ es. e.1 ∷ es) (none_left key next rows numbered.2 (λ n less. by n less (is_eq (nat_cmp n e.0)) refl))
  where
    by : (n : ℕ) → n < next → (b : Bool) → is_eq (nat_cmp n e.0) ≡ b → is_held key (row_at rows n) ≡ false
    by n less true same = ap (is_held key) (ap (row_at rows) (nat_is n e.0 (sym (nat_same n e.0) ∙ same)) ∙ absent_before e.0 rows numbered.1)
    by n less false same = sym (ap (λ b. is_held key (cond b (Some e.1) (row_at rows n))) same) ∙ none n less

pub all_dropped : (rows : Rows) (numbers : Index) (next : ℕ) (key : Key) → IsStore rows numbers next → ((n : ℕ) → has numbers (key, n) ≡ false) → without key rows ≡ values_of rows
all_dropped rows numbers next key store none = none_left key next rows store.numbered (λ n less. sym (store.found (key, n)) ∙ none n)
