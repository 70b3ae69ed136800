-- What the journal tells of the rows before.
use Rattle.std.proofs.Common.{◌≡◌, ℕ, ◌<◌, Bool, true, false, ◌&&◌, ◌||◌, cond, List, [], ◌∷◌, ◌++◌, map, Some, refl, sym, ap, ap₂, subst, ◌∙◌, arith}
use Rattle.std.specs.BTreeMap.{insert_entry, is_at}
use Rattle.std.specs.Map.{values_of, remove_entry}
use Rattle.std.specs.Ordering.{is_eq, is_lt, nat_cmp}
use Rattle.defs_soar.specs.declared.preference.Preference.{Preference}
use Rattle.soar_sym.specs.declared.symbol.Triple.{Triple as Fact}
use Rattle.soar_wm.proofs.KeyLemmas.{nat_same, nat_is}
use Rattle.settling_laws.specs.Changes.{of_value}
use Rattle.soar_prefs.specs.declared.event.Event.{Event}
use Rattle.soar_prefs.specs.declared.key.Key.TheVariants.{Triple}
use Rattle.soar_prefs.specs.Memory.{CoversRows, has_plain}
use Rattle.soar_prefs.specs.Store.{same_key, is_of, Rows, row_at, IsBefore, IsNumbered, plain, triple_key, taken_out, put_back, before, event_of, row_of, undone}
use Rattle.soar_prefs.proofs.KeyLemmas.{own_triple, one_triple}
use Rattle.soar_prefs.proofs.StoreLemmas.{apart, at_end, self}

-- one more came or went
undone_more : (journal : List Event) (event : Event) (rows : Rows) → undone (journal ++ event ∷ []) rows ≡ undone journal (before event rows)
undone_more [] event rows = refl
undone_more (first ∷ journal) event rows = ap (before first) (undone_more journal event rows)

-- a row that came last is the last
last_out : (next : ℕ) (rows : Rows) (row : Preference) → IsNumbered next rows → taken_out next row (rows ++ (next, row) ∷ []) ≡ rows
last_out next [] row numbered = ap₂ (λ a b. cond (a && b) [] ((next, row) ∷ [])) (self next) (own_triple row)
last_out next (e ∷ rows) row numbered =
    ap (λ b. cond (b && is_of (triple_key row) e.1) (rows ++ (next, row) ∷ []) (e ∷ taken_out next row (rows ++ (next, row) ∷ []))) (apart next e.0 numbered.0) ∙ ap (λ es. e ∷ es) (last_out next rows row numbered.2)

-- a row that went comes to its place

lower : (m n : ℕ) → m < n → is_lt (nat_cmp m n) ≡ true
lower m n h = grind arith

higher : (m n : ℕ) → m < n → is_lt (nat_cmp n m) ≡ false
higher m n h = grind arith

in_front : (n : ℕ) (row : Preference) (rows : Rows) → IsBefore n rows → put_back n row rows ≡ (n, row) ∷ rows
in_front n row [] less = refl
in_front n row (e ∷ rows) less = ap (λ b. cond b ((n, row) ∷ e ∷ rows) (e ∷ put_back n row rows)) (lower n e.0 less.0)

later : (m n : ℕ) (row : Preference) (rows : Rows) → IsBefore m rows → Some row ≡ row_at rows n → m < n
later m n row [] less found = absurd (cc)
later m n row (e ∷ rows) less found = by (is_eq (nat_cmp n e.0)) refl found (later m n row rows less.1)
  where
    by : (b : Bool) → is_eq (nat_cmp n e.0) ≡ b → Some row ≡ cond b (Some e.1) (row_at rows n) → (Some row ≡ row_at rows n → m < n) → m < n
    by true same found deep = subst (λ k. m < k) (sym (nat_is n e.0 (sym (nat_same n e.0) ∙ same))) less.0
    by false same found deep = deep found

back_in : (next n : ℕ) (row : Preference) (rows : Rows) → IsNumbered next rows → Some row ≡ row_at rows n → put_back n row (remove_entry (is_at (nat_cmp n)) rows) ≡ rows
back_in next n row [] numbered found = absurd (cc)
back_in next n row (e ∷ rows) numbered found = by (is_eq (nat_cmp n e.0)) refl found (back_in next n row rows numbered.2)
  where
    by : (b : Bool) → is_eq (nat_cmp n e.0) ≡ b → Some row ≡ cond b (Some e.1) (row_at rows n) → (Some row ≡ row_at rows n → put_back n row (remove_entry (is_at (nat_cmp n)) rows) ≡ rows)
        → put_back n row (cond b rows (e ∷ remove_entry (is_at (nat_cmp n)) rows)) ≡ e ∷ rows
    by true same found deep =
        let number : n ≡ e.0 = nat_is n e.0 (sym (nat_same n e.0) ∙ same) in
        let own : row ≡ e.1 = cc in
        ap₂ (λ k r. put_back k r rows) number own ∙ in_front e.0 e.1 rows numbered.1
    by false same found deep =
        ap (λ b. cond b ((n, row) ∷ e ∷ remove_entry (is_at (nat_cmp n)) rows) (e ∷ put_back n row (remove_entry (is_at (nat_cmp n)) rows))) (higher e.0 n (later e.0 n row rows numbered.1 found))
        ∙ ap (λ es. e ∷ es) (deep found)

-- what is settled stays

pub settled_add : (journal journal′ : List Event) (rows rows′ : Rows) (next : ℕ) (row : Preference) (event : Event) → IsNumbered next rows → rows′ ≡ insert_entry nat_cmp rows next row → journal′ ≡ journal ++ event ∷ []
    → event ≡ event_of next row true → undone journal′ rows′ ≡ undone journal rows
settled_add journal journal′ rows rows′ next row event numbered rows_are journal_is event_is =
    ap₂ undone journal_is (rows_are ∙ at_end next rows row numbered) ∙ undone_more journal event (rows ++ (next, row) ∷ []) ∙ ap (λ e. undone journal (before e (rows ++ (next, row) ∷ []))) event_is
    ∙ ap (undone journal) (last_out next rows row numbered)

pub settled_drop : (journal journal′ : List Event) (rows rows′ : Rows) (next n : ℕ) (row : Preference) (event : Event) → IsNumbered next rows → Some row ≡ row_at rows n → rows′ ≡ remove_entry (is_at (nat_cmp n)) rows
    → journal′ ≡ journal ++ event ∷ [] → event ≡ event_of n row false → undone journal′ rows′ ≡ undone journal rows
settled_drop journal journal′ rows rows′ next n row event numbered found rows_are journal_is event_is =
    ap₂ undone journal_is rows_are ∙ undone_more journal event (remove_entry (is_at (nat_cmp n)) rows) ∙ ap (λ e. undone journal (before e (remove_entry (is_at (nat_cmp n)) rows))) event_is
    ∙ ap (undone journal) (back_in next n row rows numbered found)

-- ---- other triples have the rows that they had

abbrev rows_of : Fact → Rows → List Preference
rows_of t rows = of_value t.id t.attr t.value (values_of rows)

abbrev is_its : Fact → Preference → Bool
is_its t row = is_of (Triple t.id t.attr t.value) row

-- rows of one triple
alike : (t : Fact) (row other : Preference) → is_of (triple_key row) other ≡ true → is_its t other ≡ is_its t row
alike t row other same = ap (λ k. same_key k (Triple t.id t.attr t.value)) (one_triple row other same)

unseen_out : (t : Fact) (n : ℕ) (row : Preference) (rows : Rows) → is_its t row ≡ false → rows_of t (taken_out n row rows) ≡ rows_of t rows
unseen_out t n row [] other = refl
unseen_out t n row (e ∷ rows) other = by (is_eq (nat_cmp n e.0)) (is_of (triple_key row) e.1) refl (unseen_out t n row rows other)
  where
    by : (a b : Bool) → is_of (triple_key row) e.1 ≡ b → rows_of t (taken_out n row rows) ≡ rows_of t rows → rows_of t (cond (a && b) rows (e ∷ taken_out n row rows)) ≡ rows_of t (e ∷ rows)
    by true true same deep = sym (ap (λ b. cond b (e.1 ∷ rows_of t rows) (rows_of t rows)) (alike t row e.1 same ∙ other))
    by true false same deep = ap (λ es. cond (is_its t e.1) (e.1 ∷ es) es) deep
    by false b same deep = ap (λ es. cond (is_its t e.1) (e.1 ∷ es) es) deep

unseen_back : (t : Fact) (n : ℕ) (row : Preference) (rows : Rows) → is_its t row ≡ false → rows_of t (put_back n row rows) ≡ rows_of t rows
unseen_back t n row [] other = ap (λ b. cond b (row ∷ []) []) other
unseen_back t n row (e ∷ rows) other = by (is_lt (nat_cmp n e.0)) (unseen_back t n row rows other)
  where
    by : (b : Bool) → rows_of t (put_back n row rows) ≡ rows_of t rows → rows_of t (cond b ((n, row) ∷ e ∷ rows) (e ∷ put_back n row rows)) ≡ rows_of t (e ∷ rows)
    by true deep = ap (λ b. cond b (row ∷ rows_of t (e ∷ rows)) (rows_of t (e ∷ rows))) other
    by false deep = ap (λ es. cond (is_its t e.1) (e.1 ∷ es) es) deep

unseen : (t : Fact) (event : Event) (rows : Rows) → is_its t (row_of event) ≡ false → rows_of t (before event rows) ≡ rows_of t rows
unseen t event rows other = by event.came
  where
    by : (b : Bool) → rows_of t (cond b (taken_out event.number (row_of event) rows) (put_back event.number (row_of event) rows)) ≡ rows_of t rows
    by true = unseen_out t event.number (row_of event) rows other
    by false = unseen_back t event.number (row_of event) rows other

first_is_none : (a b : Bool) → (a || b) ≡ false → a ≡ false
first_is_none true b h = h
first_is_none false b h = refl

rest_are_none : (a b : Bool) → (a || b) ≡ false → b ≡ false
rest_are_none true b h = absurd (cc)
rest_are_none false b h = h

pub changes_cover : (journal : List Event) (rows : Rows) → CoversRows (map (λ event. plain (row_of event)) journal) (values_of (undone journal rows)) (values_of rows)
changes_cover [] rows t none = refl
changes_cover (event ∷ journal) rows t none =
    unseen t event (undone journal rows) (first_is_none (is_its t (row_of event)) (has_plain (map (λ event. plain (row_of event)) journal) t) none)
    ∙ changes_cover journal rows t (rest_are_none (is_its t (row_of event)) (has_plain (map (λ event. plain (row_of event)) journal) t) none)
