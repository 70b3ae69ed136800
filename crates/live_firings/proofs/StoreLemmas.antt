-- Firings by place come and go.
use Rattle.std.proofs.Common.{◌≡◌, ℕ, ◌+◌, ◌^◌, ◌<◌, ◌≤◌, Bool, true, false, ◌&&◌, cond, List, [], ◌∷◌, ◌++◌, Some, None, refl, sym, ap, ap₂, subst, ◌∙◌, arith}
use Rattle.std.specs.BTreeMap.{insert_entry, is_at}
use Rattle.std.specs.Map.{values_of, remove_entry}
use Rattle.std.specs.Ordering.{is_eq, nat_cmp, match_ordering, ordering_then}
use Rattle.std.specs.declared.cmp.Ordering.{Ordering}
use Rattle.std.specs.declared.cmp.Ordering.TheVariants.{Less, Equal, Greater}
use Rattle.std.proofs.lemmas.List.{map-append}
use Rattle.open_instances.specs.Keys.{key_cmp}
use Rattle.live_firings.specs.declared.index.Index.{Index}
use Rattle.live_firings.specs.declared.live.Live.{Live}
use Rattle.live_firings.specs.Store.{IsBefore, IsNumbered, IsStore, Marked, Marks, Places, Rows, Stands, is_held, match_of, row_at}

pub apart : (m n : ℕ) → n < m → is_eq (nat_cmp m n) ≡ false
apart m n h = grind arith

pub apart_below : (m n : ℕ) → m < n → is_eq (nat_cmp m n) ≡ false
apart_below m n h = grind arith

pub self : (n : ℕ) → is_eq (nat_cmp n n) ≡ true
self n = grind arith

pub nat_is : (m n : ℕ) → is_eq (nat_cmp m n) ≡ true → m ≡ n
nat_is m n h = grind arith

then_same : (x y : Ordering) → is_eq (ordering_then x y) ≡ (is_eq x && is_eq y)
then_same Less y = refl
then_same Equal y = refl
then_same Greater y = refl

greater : (m n : ℕ) → n < m → nat_cmp m n ≡ Greater
greater m n h = grind arith

-- no firing has the next place
fresh : (next : ℕ) (rows : Rows) → IsNumbered next rows → row_at rows next ≡ None
fresh next [] numbered = refl
fresh next (e ∷ rows) numbered = ap (λ b. cond b (Some e.1) (row_at rows next)) (apart next e.0 numbered.0) ∙ fresh next rows numbered.2

pub fresh_above : (next n : ℕ) (rows : Rows) → IsNumbered next rows → next ≤ n → row_at rows n ≡ None
fresh_above next n [] numbered le = refl
fresh_above next n (e ∷ rows) numbered le = ap (λ b. cond b (Some e.1) (row_at rows n)) (apart n e.0 (omega (arith, numbered.0, le))) ∙ fresh_above next n rows numbered.2 le

pub absent_before : (n : ℕ) (rows : Rows) → IsBefore n rows → row_at rows n ≡ None
absent_before n [] before = refl
absent_before n (e ∷ rows) before = ap (λ b. cond b (Some e.1) (row_at rows n)) (apart_below n e.0 before.0) ∙ absent_before n rows before.1

-- ---- one firing more

pub at_end : (next : ℕ) (rows : Rows) (l : Live) → IsNumbered next rows → insert_entry nat_cmp rows next l ≡ rows ++ (next, l) ∷ []
at_end next [] l numbered = refl
at_end next (e ∷ rows) l numbered =
    ap (λ o. match_ordering o ((next, l) ∷ e ∷ rows) ((e.0, l) ∷ rows) (e ∷ insert_entry nat_cmp rows next l)) (greater next e.0 numbered.0) ∙ ap (λ es. e ∷ es) (at_end next rows l numbered.2)

before_push : (n m : ℕ) (rows : Rows) (l : Live) → IsBefore n rows → n < m → IsBefore n (rows ++ (m, l) ∷ [])
before_push n m [] l before less = (less, tt)
before_push n m (e ∷ rows) l before less = (before.0, before_push n m rows l before.1 less)

numbered_push : (next : ℕ) (rows : Rows) (l : Live) → IsNumbered next rows → IsNumbered (next + 1) (rows ++ (next, l) ∷ [])
numbered_push next [] l numbered = (omega arith, tt, tt)
numbered_push next (e ∷ rows) l numbered = (omega (arith, numbered.0), before_push e.0 next rows l numbered.1 numbered.0, numbered_push next rows l numbered.2)

pub values_push : (next : ℕ) (rows new_rows : Rows) (l : Live) → IsNumbered next rows → new_rows ≡ insert_entry nat_cmp rows next l → values_of new_rows ≡ values_of rows ++ l ∷ []
values_push next rows new_rows l numbered is = ap values_of (is ∙ at_end next rows l numbered) ∙ map-append (λ e. e.1) rows ((next, l) ∷ [])

-- ---- one firing less

before_gone : (n m : ℕ) (rows : Rows) → IsBefore n rows → IsBefore n (remove_entry (is_at (nat_cmp m)) rows)
before_gone n m [] before = tt
before_gone n m (e ∷ rows) before = by (is_eq (nat_cmp m e.0)) (before_gone n m rows before.1)
  where
    by : (b : Bool) → IsBefore n (remove_entry (is_at (nat_cmp m)) rows) → IsBefore n (cond b rows (e ∷ remove_entry (is_at (nat_cmp m)) rows))
    by true h = before.1
    by false h = (before.0, h)

numbered_gone : (next m : ℕ) (rows : Rows) → IsNumbered next rows → IsNumbered next (remove_entry (is_at (nat_cmp m)) rows)
numbered_gone next m [] numbered = tt
numbered_gone next m (e ∷ rows) numbered = by (is_eq (nat_cmp m e.0)) (numbered_gone next m rows numbered.2)
  where
    by : (b : Bool) → IsNumbered next (remove_entry (is_at (nat_cmp m)) rows) → IsNumbered next (cond b rows (e ∷ remove_entry (is_at (nat_cmp m)) rows))
    by true h = numbered.2
    by false h = (numbered.0, before_gone e.0 m rows numbered.1, h)

-- ---- what stands

module _ {K : Type 0} (cmp : K → K → Ordering) (key : Live → K) where
  abbrev own : K → Live → Bool
  own k l = is_eq (cmp (key l) k)

  stands_more : (next : ℕ) (rows new_rows : Rows) (places new_places : Places K) (l : Live) → IsNumbered next rows → Stands cmp key rows places
      → ((n : ℕ) → row_at new_rows n ≡ cond (is_eq (nat_cmp next n)) (Some l) (row_at rows n)) → Marks cmp (key l, next) true places new_places → Stands cmp key new_rows new_places
  stands_more next rows new_rows places new_places l numbered stands up marks q =
      marks q ∙ ap₂ (λ a b. cond a true b) (then_same (cmp (key l) q.0) (nat_cmp next q.1)) (stands q) ∙ by (is_eq (nat_cmp next q.1)) refl ∙ sym (ap (is_held (own q.0)) (up q.1))
    where
      here : (b : Bool) → cond (b && true) true false ≡ b
      here true = refl
      here false = refl

      there : (b c : Bool) → cond (b && false) true c ≡ c
      there true c = refl
      there false c = refl

      by : (b : Bool) → is_eq (nat_cmp next q.1) ≡ b → cond (own q.0 l && b) true (is_held (own q.0) (row_at rows q.1)) ≡ is_held (own q.0) (cond b (Some l) (row_at rows q.1))
      by true h = ap (λ o. cond (own q.0 l && true) true (is_held (own q.0) o)) (sym (ap (row_at rows) (nat_is next q.1 h)) ∙ fresh next rows numbered) ∙ here (own q.0 l)
      by false h = there (own q.0 l) (is_held (own q.0) (row_at rows q.1))

  stands_kept : (next : ℕ) (rows : Rows) (places new_places : Places K) (l : Live) → IsNumbered next rows → Stands cmp key rows places → Marks cmp (key l, next) false places new_places → Stands cmp key rows new_places
  stands_kept next rows places new_places l numbered stands marks q =
      marks q ∙ ap₂ (λ a b. cond a false b) (then_same (cmp (key l) q.0) (nat_cmp next q.1)) (stands q) ∙ by (is_eq (nat_cmp next q.1)) refl
    where
      here : (b : Bool) → cond (b && true) false false ≡ false
      here true = refl
      here false = refl

      there : (b c : Bool) → cond (b && false) false c ≡ c
      there true c = refl
      there false c = refl

      by : (b : Bool) → is_eq (nat_cmp next q.1) ≡ b → cond (own q.0 l && b) false (is_held (own q.0) (row_at rows q.1)) ≡ is_held (own q.0) (row_at rows q.1)
      by true h =
          let none : row_at rows q.1 ≡ None = sym (ap (row_at rows) (nat_is next q.1 h)) ∙ fresh next rows numbered in
          ap (λ o. cond (own q.0 l && true) false (is_held (own q.0) o)) none ∙ here (own q.0 l) ∙ sym (ap (is_held (own q.0)) none)
      by false h = there (own q.0 l) (is_held (own q.0) (row_at rows q.1))

  stands_less : (n : ℕ) (rows new_rows : Rows) (places new_places : Places K) (l : Live) → Some l ≡ row_at rows n → Stands cmp key rows places
      → ((m : ℕ) → row_at new_rows m ≡ cond (is_eq (nat_cmp n m)) None (row_at rows m)) → Marks cmp (key l, n) false places new_places → Stands cmp key new_rows new_places
  stands_less n rows new_rows places new_places l was stands up marks q =
      marks q ∙ ap₂ (λ a b. cond a false b) (then_same (cmp (key l) q.0) (nat_cmp n q.1)) (stands q) ∙ by (is_eq (nat_cmp n q.1)) refl ∙ sym (ap (is_held (own q.0)) (up q.1))
    where
      here : (b : Bool) → cond (b && true) false b ≡ false
      here true = refl
      here false = refl

      there : (b c : Bool) → cond (b && false) false c ≡ c
      there true c = refl
      there false c = refl

      by : (b : Bool) → is_eq (nat_cmp n q.1) ≡ b → cond (own q.0 l && b) false (is_held (own q.0) (row_at rows q.1)) ≡ is_held (own q.0) (cond b None (row_at rows q.1))
      by true h = ap (λ o. cond (own q.0 l && true) false (is_held (own q.0) o)) (sym (ap (row_at rows) (nat_is n q.1 h)) ∙ sym was) ∙ here (own q.0 l)
      by false h = there (own q.0 l) (is_held (own q.0) (row_at rows q.1))

-- ---- the whole

abbrev MarkedOf : Live → ℕ → Bool → Index → Index → Type 0
MarkedOf l place now old new = Marked l.number l.depth (match_of l) place now old new

pub stored : (rows new_rows : Rows) (index new_index : Index) (next later mark : ℕ) (l : Live) → IsStore rows index next mark → later ≡ next + 1 → later < 2 ^ 64 → new_rows ≡ insert_entry nat_cmp rows next l
    → ((n : ℕ) → row_at new_rows n ≡ cond (is_eq (nat_cmp next n)) (Some l) (row_at rows n)) → MarkedOf l next true index new_index → IsStore new_rows new_index later mark
stored rows new_rows index new_index next later mark l store next_is small is up marks = record {
  numbered = subst (λ n. IsNumbered n new_rows) (sym next_is) (subst (IsNumbered (next + 1)) (sym (is ∙ at_end next rows l store.numbered)) (numbered_push next rows l store.numbered));
  small = small;
  marked = omega (arith, store.marked, next_is);
  numbers = stands_more nat_cmp (λ l. l.number) next rows new_rows index.numbers.entries new_index.numbers.entries l store.numbered store.numbers up marks.numbers;
  depths = stands_more nat_cmp (λ l. l.depth) next rows new_rows index.depths.entries new_index.depths.entries l store.numbered store.depths up marks.depths;
  matches = stands_more key_cmp match_of next rows new_rows index.matches.entries new_index.matches.entries l store.numbered store.matches up marks.matches;
}

pub kept : (rows new_rows : Rows) (index new_index : Index) (next mark : ℕ) (l : Live) → IsStore rows index next mark → new_rows ≡ rows → MarkedOf l next false index new_index → IsStore new_rows new_index next mark
kept rows new_rows index new_index next mark l store same marks =
    subst (λ es. IsStore es new_index next mark) (sym same)
    (record {
      numbered = store.numbered;
      small = store.small;
      marked = store.marked;
      numbers = stands_kept nat_cmp (λ l. l.number) next rows index.numbers.entries new_index.numbers.entries l store.numbered store.numbers marks.numbers;
      depths = stands_kept nat_cmp (λ l. l.depth) next rows index.depths.entries new_index.depths.entries l store.numbered store.depths marks.depths;
      matches = stands_kept key_cmp match_of next rows index.matches.entries new_index.matches.entries l store.numbered store.matches marks.matches;
    })

pub gone : (rows new_rows : Rows) (index new_index : Index) (next mark n : ℕ) (l : Live) → IsStore rows index next mark → Some l ≡ row_at rows n → new_rows ≡ remove_entry (is_at (nat_cmp n)) rows
    → ((m : ℕ) → row_at new_rows m ≡ cond (is_eq (nat_cmp n m)) None (row_at rows m)) → MarkedOf l n false index new_index → IsStore new_rows new_index next mark
gone rows new_rows index new_index next mark n l store was is up marks = record {
  numbered = subst (IsNumbered next) (sym is) (numbered_gone next n rows store.numbered);
  small = store.small;
  marked = store.marked;
  numbers = stands_less nat_cmp (λ l. l.number) n rows new_rows index.numbers.entries new_index.numbers.entries l was store.numbers up marks.numbers;
  depths = stands_less nat_cmp (λ l. l.depth) n rows new_rows index.depths.entries new_index.depths.entries l was store.depths up marks.depths;
  matches = stands_less key_cmp match_of n rows new_rows index.matches.entries new_index.matches.entries l was store.matches up marks.matches;
}
