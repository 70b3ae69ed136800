-- What was told stays, and what came and went since is counted.
use Rattle.std.proofs.Common.{◌≡◌, ℕ, ◌+◌, ◌<◌, ◌≤◌, Bool, true, false, nat_lt, not, cond, List, [], ◌∷◌, ◌++◌, map, Some, refl, sym, ap, ap₂, subst, ◌∙◌, arith}
use Rattle.std.specs.BTreeMap.{insert_entry, is_at}
use Rattle.std.specs.BTreeMap.Range.{range_contains}
use Rattle.std.specs.Map.{values_of, remove_entry}
use Rattle.std.specs.Ordering.{is_eq, is_lt, nat_cmp}
use Rattle.std.specs.declared.ops.Bound.TheVariants.{Included, Unbounded}
use Rattle.std.proofs.lemmas.List.{append-nil}
use Rattle.match_changes.specs.declared.key.MatchKey.{MatchKey}
use Rattle.open_instances.specs.Keys.{alike, times}
use Rattle.live_firings.specs.declared.live.Live.{Live}
use Rattle.live_firings.specs.Living.{AreNews, keys_of}
use Rattle.live_firings.specs.Store.{IsBefore, IsNumbered, Rows, before_mark, from_mark, match_of, put_back, row_at, told_rows, undone}
use Rattle.live_firings.proofs.StoreLemmas.{at_end, nat_is}

not_below : (m n : ℕ) → n ≤ m → nat_lt m n ≡ false
not_below m n h = grind arith

is_below : (m n : ℕ) → m < n → nat_lt m n ≡ true
is_below m n h = grind arith

lower : (m n : ℕ) → m < n → is_lt (nat_cmp m n) ≡ true
lower m n h = grind arith

higher : (m n : ℕ) → m < n → is_lt (nat_cmp n m) ≡ false
higher m n h = grind arith

-- ---- one firing more

late_push : (mark next : ℕ) (rows : Rows) (l : Live) → mark ≤ next → before_mark mark (rows ++ (next, l) ∷ []) ≡ before_mark mark rows
late_push mark next [] l late = ap (λ b. cond b ((next, l) ∷ []) []) (not_below next mark late)
late_push mark next (e ∷ rows) l late = ap (λ es. cond (nat_lt e.0 mark) (e ∷ es) es) (late_push mark next rows l late)

pub told_add : (mark next : ℕ) (gone : List (ℕ × Live)) (rows new_rows : Rows) (l : Live) → IsNumbered next rows → mark ≤ next → new_rows ≡ insert_entry nat_cmp rows next l → told_rows mark gone new_rows ≡ told_rows mark gone rows
told_add mark next gone rows new_rows l numbered late is = ap (told_rows mark gone) (is ∙ at_end next rows l numbered) ∙ ap (undone gone) (late_push mark next rows l late)

-- ---- one firing less

undone_more : (gone : List (ℕ × Live)) (n : ℕ) (l : Live) (rows : Rows) → undone (gone ++ (n, l) ∷ []) rows ≡ undone gone (put_back n l rows)
undone_more [] n l rows = refl
undone_more (g ∷ gone) n l rows = ap (put_back g.0 g.1) (undone_more gone n l rows)

-- one that came after the mark
late_gone : (mark n : ℕ) (rows : Rows) → mark ≤ n → before_mark mark (remove_entry (is_at (nat_cmp n)) rows) ≡ before_mark mark rows
late_gone mark n [] late = refl
late_gone mark n (e ∷ rows) late = by (is_eq (nat_cmp n e.0)) refl (late_gone mark n rows late)
  where
    by : (b : Bool) → is_eq (nat_cmp n e.0) ≡ b → before_mark mark (remove_entry (is_at (nat_cmp n)) rows) ≡ before_mark mark rows
        → before_mark mark (cond b rows (e ∷ remove_entry (is_at (nat_cmp n)) rows)) ≡ before_mark mark (e ∷ rows)
    by true same deep = sym (ap (λ b. cond b (e ∷ before_mark mark rows) (before_mark mark rows)) (not_below e.0 mark (subst (λ k. mark ≤ k) (nat_is n e.0 same) late)))
    by false same deep = ap (λ es. cond (nat_lt e.0 mark) (e ∷ es) es) deep

before_first : (n mark : ℕ) (rows : Rows) → IsBefore n rows → IsBefore n (before_mark mark rows)
before_first n mark [] before = tt
before_first n mark (e ∷ rows) before = by (nat_lt e.0 mark) (before_first n mark rows before.1)
  where
    by : (b : Bool) → IsBefore n (before_mark mark rows) → IsBefore n (cond b (e ∷ before_mark mark rows) (before_mark mark rows))
    by true h = (before.0, h)
    by false h = h

in_front : (n : ℕ) (l : Live) (rows : Rows) → IsBefore n rows → put_back n l rows ≡ (n, l) ∷ rows
in_front n l [] less = refl
in_front n l (e ∷ rows) less = ap (λ b. cond b ((n, l) ∷ e ∷ rows) (e ∷ put_back n l rows)) (lower n e.0 less.0)

later : (m n : ℕ) (l : Live) (rows : Rows) → IsBefore m rows → Some l ≡ row_at rows n → m < n
later m n l [] less found = absurd (cc)
later m n l (e ∷ rows) less found = by (is_eq (nat_cmp n e.0)) refl found (later m n l rows less.1)
  where
    by : (b : Bool) → is_eq (nat_cmp n e.0) ≡ b → Some l ≡ cond b (Some e.1) (row_at rows n) → (Some l ≡ row_at rows n → m < n) → m < n
    by true same found deep = subst (λ k. m < k) (sym (nat_is n e.0 same)) less.0
    by false same found deep = deep found

-- one that came before the mark
early_gone : (next mark n : ℕ) (l : Live) (rows : Rows) → IsNumbered next rows → n < mark → Some l ≡ row_at rows n → put_back n l (before_mark mark (remove_entry (is_at (nat_cmp n)) rows)) ≡ before_mark mark rows
early_gone next mark n l [] numbered early found = absurd (cc)
early_gone next mark n l (e ∷ rows) numbered early found = by (is_eq (nat_cmp n e.0)) refl found (early_gone next mark n l rows numbered.2 early)
  where
    gone : Rows
    gone = before_mark mark (remove_entry (is_at (nat_cmp n)) rows)

    by : (b : Bool) → is_eq (nat_cmp n e.0) ≡ b → Some l ≡ cond b (Some e.1) (row_at rows n) → (Some l ≡ row_at rows n → put_back n l gone ≡ before_mark mark rows)
        → put_back n l (before_mark mark (cond b rows (e ∷ remove_entry (is_at (nat_cmp n)) rows))) ≡ before_mark mark (e ∷ rows)
    by true same found deep =
        let number : n ≡ e.0 = nat_is n e.0 same in
        let own : l ≡ e.1 = cc in
        ap₂ (λ k r. put_back k r (before_mark mark rows)) number own
        ∙ in_front e.0 e.1 (before_mark mark rows) (before_first e.0 mark rows numbered.1)
        ∙ sym (ap (λ b. cond b (e ∷ before_mark mark rows) (before_mark mark rows)) (is_below e.0 mark (subst (λ k. k < mark) number early)))
    by false same found deep =
        let less : e.0 < n = later e.0 n l rows numbered.1 found in
        let told : nat_lt e.0 mark ≡ true = is_below e.0 mark (omega (arith, less, early)) in
        ap (λ b. put_back n l (cond b (e ∷ gone) gone)) told
        ∙ ap (λ b. cond b ((n, l) ∷ e ∷ gone) (e ∷ put_back n l gone)) (higher e.0 n less)
        ∙ ap (λ es. e ∷ es) (deep found)
        ∙ sym (ap (λ b. cond b (e ∷ before_mark mark rows) (before_mark mark rows)) told)

pub told_late : (mark n : ℕ) (gone : List (ℕ × Live)) (rows new_rows : Rows) → mark ≤ n → new_rows ≡ remove_entry (is_at (nat_cmp n)) rows → told_rows mark gone new_rows ≡ told_rows mark gone rows
told_late mark n gone rows new_rows late is = ap (told_rows mark gone) is ∙ ap (undone gone) (late_gone mark n rows late)

pub told_early : (next mark n : ℕ) (l : Live) (gone new_gone : List (ℕ × Live)) (rows new_rows : Rows) → IsNumbered next rows → n < mark → Some l ≡ row_at rows n → new_rows ≡ remove_entry (is_at (nat_cmp n)) rows
    → new_gone ≡ gone ++ (n, l) ∷ [] → told_rows mark new_gone new_rows ≡ told_rows mark gone rows
told_early next mark n l gone new_gone rows new_rows numbered early found is more =
    ap₂ (told_rows mark) more is ∙ undone_more gone n l (before_mark mark (remove_entry (is_at (nat_cmp n)) rows)) ∙ ap (undone gone) (early_gone next mark n l rows numbered early found)

pub told_less : (next mark n : ℕ) (l : Live) (gone new_gone : List (ℕ × Live)) (rows new_rows : Rows) → IsNumbered next rows → Some l ≡ row_at rows n → new_rows ≡ remove_entry (is_at (nat_cmp n)) rows
    → new_gone ≡ gone ++ cond (nat_lt n mark) ((n, l) ∷ []) [] → told_rows mark new_gone new_rows ≡ told_rows mark gone rows
told_less next mark n l gone new_gone rows new_rows numbered found is more = by (nat_lt n mark) refl more
  where
    below : (m n : ℕ) → nat_lt m n ≡ true → m < n
    below m n h = grind arith

    from : (m n : ℕ) → nat_lt m n ≡ false → n ≤ m
    from m n h = grind arith

    by : (b : Bool) → nat_lt n mark ≡ b → new_gone ≡ gone ++ cond b ((n, l) ∷ []) [] → told_rows mark new_gone new_rows ≡ told_rows mark gone rows
    by true h more = told_early next mark n l gone new_gone rows new_rows numbered (below n mark h) found is more
    by false h more = ap (λ g. told_rows mark g new_rows) (more ∙ append-nil gone) ∙ told_late mark n gone rows new_rows (from n mark h) is

-- ---- all are told

pub told_all : (next : ℕ) (rows : Rows) → IsNumbered next rows → before_mark next rows ≡ rows
told_all next [] numbered = refl
told_all next (e ∷ rows) numbered = ap (λ b. cond b (e ∷ before_mark next rows) (before_mark next rows)) (is_below e.0 next numbered.0) ∙ ap (λ es. e ∷ es) (told_all next rows numbered.2)

-- ---- what came and went

abbrev count : MatchKey → Rows → ℕ
count q rows = times q (keys_of (values_of rows))

abbrev one : MatchKey → Live → ℕ
one q l = cond (alike (match_of l) q) 1 0

count_back : (q : MatchKey) (n : ℕ) (l : Live) (rows : Rows) → count q (put_back n l rows) ≡ one q l + count q rows
count_back q n l [] = refl
count_back q n l (e ∷ rows) = by (is_lt (nat_cmp n e.0)) (count_back q n l rows)
  where
    turned : (a b c : ℕ) → a + (b + c) ≡ b + (a + c)
    turned a b c = omega arith

    by : (b : Bool) → count q (put_back n l rows) ≡ one q l + count q rows → count q (cond b ((n, l) ∷ e ∷ rows) (e ∷ put_back n l rows)) ≡ one q l + count q (e ∷ rows)
    by true deep = refl
    by false deep = ap (λ c. one q e.1 + c) deep ∙ turned (one q e.1) (one q l) (count q rows)

count_undone : (q : MatchKey) (gone : List (ℕ × Live)) (rows : Rows) → count q (undone gone rows) ≡ times q (map (λ g. match_of g.1) gone) + count q rows
count_undone q [] rows = none (count q rows)
  where
    none : (n : ℕ) → n ≡ 0 + n
    none n = omega arith
count_undone q (g ∷ gone) rows = count_back q g.0 g.1 (undone gone rows) ∙ ap (λ c. one q g.1 + c) (count_undone q gone rows) ∙ joined (one q g.1) (times q (map (λ g. match_of g.1) gone)) (count q rows)
  where
    joined : (a b c : ℕ) → a + (b + c) ≡ (a + b) + c
    joined a b c = omega arith

count_split : (q : MatchKey) (mark : ℕ) (rows : Rows) → count q (before_mark mark rows) + count q (from_mark mark rows) ≡ count q rows
count_split q mark [] = refl
count_split q mark (e ∷ rows) = by (nat_lt e.0 mark) ∙ ap (λ c. one q e.1 + c) (count_split q mark rows)
  where
    flipped : (m n : ℕ) → range_contains nat_cmp (Included m) Unbounded n ≡ not (nat_lt n m)
    flipped m n = grind arith

    front : (a b c : ℕ) → (a + b) + c ≡ a + (b + c)
    front a b c = omega arith

    back : (a b c : ℕ) → b + (a + c) ≡ a + (b + c)
    back a b c = omega arith

    sides : (b : Bool) → count q (cond b (e ∷ before_mark mark rows) (before_mark mark rows)) + count q (cond (not b) (e ∷ from_mark mark rows) (from_mark mark rows))
        ≡ one q e.1 + (count q (before_mark mark rows) + count q (from_mark mark rows))
    sides true = front (one q e.1) (count q (before_mark mark rows)) (count q (from_mark mark rows))
    sides false = back (one q e.1) (count q (before_mark mark rows)) (count q (from_mark mark rows))

    by : (b : Bool) → count q (before_mark mark (e ∷ rows)) + count q (from_mark mark (e ∷ rows)) ≡ one q e.1 + (count q (before_mark mark rows) + count q (from_mark mark rows))
    by b = ap (λ c. count q (before_mark mark (e ∷ rows)) + count q (cond c (e ∷ from_mark mark rows) (from_mark mark rows))) (flipped mark e.0) ∙ sides (nat_lt e.0 mark)

pub news : (mark : ℕ) (gone : List (ℕ × Live)) (rows : Rows) → AreNews (values_of (told_rows mark gone rows)) (values_of rows) (keys_of (values_of (from_mark mark rows))) (map (λ g. match_of g.1) gone)
news mark gone rows q =
    ap (λ n. n + count q (from_mark mark rows)) (count_undone q gone (before_mark mark rows)) ∙ turned (times q (map (λ g. match_of g.1) gone)) (count q (before_mark mark rows)) (count q (from_mark mark rows))
    ∙ ap (λ n. n + times q (map (λ g. match_of g.1) gone)) (count_split q mark rows)
  where
    turned : (a b c : ℕ) → (a + b) + c ≡ (b + c) + a
    turned a b c = omega arith
