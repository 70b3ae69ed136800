-- The firings of keys, as their places tell.
use Rattle.std.proofs.Common.{◌≡◌, ◌↔◌, ℕ, ◌-◌, ◌^◌, ◌<◌, ◌≤◌, ◌==◌, inl, inr, nat_le, Bool, true, false, ◌&&◌, ◌||◌, cond, List, [], ◌∷◌, filter, filter_map, Option, Some, None, refl, sym, ap, ap₂, subst, ◌∙◌, arith}
use Rattle.std.specs.BTreeSet.{BTreeSet, insert_key}
use Rattle.std.specs.BTreeSet as set
use Rattle.std.specs.List.{AllByRecursion, cons_option, list_any}
use Rattle.std.specs.List.Sorted.{IsStrictlySortedBy}
use Rattle.std.specs.Map.{values_of}
use Rattle.std.specs.Ordering.{is_eq, match_ordering, nat_cmp}
use Rattle.std.specs.declared.cmp.Ordering.{Ordering}
use Rattle.std.specs.declared.cmp.Ordering.TheVariants.{Less, Equal, Greater}
use Rattle.std.proofs.lemmas.Map.Keys.{sorted_head, sorted_tail}
use Rattle.defs_match.specs.Laws.{IsIn}
use Rattle.conflict_order.specs.Order.{Ordered}
use Rattle.conflict_order.proofs.ListOrder.{same_in_order}
use Rattle.match_changes.specs.declared.key.MatchKey.{MatchKey}
use Rattle.open_instances.specs.Keys.{key_cmp}
use Rattle.live_firings.specs.declared.index.Index.{Index}
use Rattle.live_firings.specs.declared.live.Live.{Live}
use Rattle.live_firings.specs.Store.{ArePlacesOf, IsBefore, IsNumbered, IsStore, Rows, has, is_held, match_of, of_match, row_at}
use Rattle.live_firings.proofs.PlaceLemmas.{key_places}
use Rattle.live_firings.proofs.StoreLemmas.{absent_before, apart, fresh_above, nat_is, self}

abbrev pub has_place : List ℕ → ℕ → Bool
has_place ns p = list_any (λ n. n == p) ns

same_places : (m n : ℕ) → nat_cmp m n ≡ Equal → m ≡ n
same_places m n e = grind arith

-- a set gains a place
pub put_place : (n m : ℕ) (ms : List ℕ) → has_place (insert_key nat_cmp ms m) n ≡ ((m == n) || has_place ms n)
put_place n m [] = refl
put_place n m (x ∷ xs) = by (nat_cmp m x) refl (put_place n m xs)
  where
    twice : (a b : Bool) → (a || b) ≡ (a || (a || b))
    twice true b = refl
    twice false b = refl

    turned : (a b c : Bool) → (a || (b || c)) ≡ (b || (a || c))
    turned true true c = refl
    turned true false c = refl
    turned false true c = refl
    turned false false c = refl

    by : (o : Ordering) → nat_cmp m x ≡ o → has_place (insert_key nat_cmp xs m) n ≡ ((m == n) || has_place xs n)
        → has_place (match_ordering o (m ∷ x ∷ xs) (x ∷ xs) (x ∷ insert_key nat_cmp xs m)) n ≡ ((m == n) || ((x == n) || has_place xs n))
    by Less e later = refl
    by Equal e later = twice (x == n) (has_place xs n) ∙ ap (λ k. (k == n) || ((x == n) || has_place xs n)) (sym (same_places m x e))
    by Greater e later = ap (λ b. (x == n) || b) later ∙ turned (x == n) (m == n) (has_place xs n)

-- ---- members

in_place : (p : ℕ) (ns : List ℕ) → IsIn p ns → has_place ns p ≡ true
in_place p [] h = absurd h
in_place p (n ∷ ns) (inl e) = ap (λ b. b || has_place ns p) (here n p e)
  where
    here : (m n : ℕ) → m ≡ n → (m == n) ≡ true
    here m n h = grind arith
in_place p (n ∷ ns) (inr h) = by (n == p) (has_place ns p) (in_place p ns h)
  where
    by : (a b : Bool) → b ≡ true → (a || b) ≡ true
    by true b h = refl
    by false b h = h

place_in : (p : ℕ) (ns : List ℕ) → has_place ns p ≡ true → IsIn p ns
place_in p [] h = absurd (cc)
place_in p (n ∷ ns) h = by (n == p) refl h (place_in p ns)
  where
    equal : (m n : ℕ) → (m == n) ≡ true → m ≡ n
    equal m n h = grind arith

    by : (b : Bool) → (n == p) ≡ b → (b || has_place ns p) ≡ true → (has_place ns p ≡ true → IsIn p ns) → IsIn p (n ∷ ns)
    by true e h deep = inl (equal n p e)
    by false e h deep = inr (deep h)

-- ---- in order

less_is : (m n : ℕ) → nat_cmp m n ≡ Less → m < n
less_is m n h = grind arith

never_both : (m n : ℕ) → m < n → n < m → ⊥
never_both m n h k = omega (arith, h, k)

above : (n p : ℕ) (ns : List ℕ) → AllByRecursion (λ y. nat_cmp n y ≡ Less) ns → IsIn p ns → n < p
above n p [] all h = absurd h
above n p (m ∷ ns) all (inl e) = subst (λ k. n < k) e (less_is n m all.0)
above n p (m ∷ ns) all (inr h) = above n p ns all.1 h

sorted_order : (ns : List ℕ) → IsStrictlySortedBy nat_cmp ns → Ordered (λ m n. m < n) ns
sorted_order [] s = tt
sorted_order (n ∷ ns) s = ((λ p h. above n p ns (sorted_head nat_cmp n ns s) h), sorted_order ns (sorted_tail nat_cmp n ns s))

module _ (test : Live → Bool) where
  -- the places of the firings that pass
  passing : Rows → List ℕ
  passing [] = []
  passing (e ∷ rows) = cond (test e.1) (e.0 ∷ passing rows) (passing rows)

  passing_above : (n p : ℕ) (rows : Rows) → IsBefore n rows → IsIn p (passing rows) → n < p
  unfolding passing
  passing_above n p [] before h = absurd h
  passing_above n p (e ∷ rows) before h = by (test e.1) h (passing_above n p rows before.1)
    where
      by : (b : Bool) → IsIn p (cond b (e.0 ∷ passing rows) (passing rows)) → (IsIn p (passing rows) → n < p) → n < p
      by true (inl same) deep = subst (λ k. n < k) same before.0
      by true (inr h) deep = deep h
      by false h deep = deep h

  passing_order : (next : ℕ) (rows : Rows) → IsNumbered next rows → Ordered (λ m n. m < n) (passing rows)
  unfolding passing
  passing_order next [] numbered = tt
  passing_order next (e ∷ rows) numbered = by (test e.1) (passing_order next rows numbered.2)
    where
      by : (b : Bool) → Ordered (λ m n. m < n) (passing rows) → Ordered (λ m n. m < n) (cond b (e.0 ∷ passing rows) (passing rows))
      by true h = ((λ p k. passing_above e.0 p rows numbered.1 k), h)
      by false h = h

  passing_held : (next p : ℕ) (rows : Rows) → IsNumbered next rows → IsIn p (passing rows) → is_held test (row_at rows p) ≡ true
  unfolding passing
  passing_held next p [] numbered h = absurd h
  passing_held next p (e ∷ rows) numbered h = by (test e.1) refl h (passing_held next p rows numbered.2)
    where
      later : IsIn p (passing rows) → is_held test (row_at rows p) ≡ true → is_held test (cond (is_eq (nat_cmp p e.0)) (Some e.1) (row_at rows p)) ≡ true
      later h deep = ap (λ b. is_held test (cond b (Some e.1) (row_at rows p))) (apart p e.0 (passing_above e.0 p rows numbered.1 h)) ∙ deep

      by : (b : Bool) → test e.1 ≡ b → IsIn p (cond b (e.0 ∷ passing rows) (passing rows)) → (IsIn p (passing rows) → is_held test (row_at rows p) ≡ true)
          → is_held test (cond (is_eq (nat_cmp p e.0)) (Some e.1) (row_at rows p)) ≡ true
      by true own (inl same) deep = ap (λ b. is_held test (cond b (Some e.1) (row_at rows p))) (ap (λ k. is_eq (nat_cmp k e.0)) (sym same) ∙ self e.0) ∙ own
      by true own (inr h) deep = later h (deep h)
      by false own h deep = later h (deep h)

  held_passing : (p : ℕ) (rows : Rows) → is_held test (row_at rows p) ≡ true → IsIn p (passing rows)
  unfolding passing
  held_passing p [] h = absurd (cc)
  held_passing p (e ∷ rows) h = by (is_eq (nat_cmp p e.0)) refl h (held_passing p rows)
    where
      first : (b : Bool) → b ≡ true → e.0 ≡ p → IsIn p (cond b (e.0 ∷ passing rows) (passing rows))
      first true h same = inl same
      first false h same = absurd (cc)

      more : (b : Bool) → IsIn p (passing rows) → IsIn p (cond b (e.0 ∷ passing rows) (passing rows))
      more true h = inr h
      more false h = h

      by : (b : Bool) → is_eq (nat_cmp p e.0) ≡ b → is_held test (cond b (Some e.1) (row_at rows p)) ≡ true → (is_held test (row_at rows p) ≡ true → IsIn p (passing rows))
          → IsIn p (cond (test e.1) (e.0 ∷ passing rows) (passing rows))
      by true same h deep = first (test e.1) h (sym (nat_is p e.0 same))
      by false same h deep = more (test e.1) (deep h)

  -- each of the firings is found
  AreFound : Rows → Rows → Type 0
  AreFound all [] = Unit {0}
  AreFound all (e ∷ rows) = (row_at all e.0 ≡ Some e.1) × AreFound all rows

  found_later : (e : ℕ × Live) (all rows : Rows) → IsBefore e.0 rows → AreFound all rows → AreFound (e ∷ all) rows
  unfolding AreFound
  found_later e all [] before found = tt
  found_later e all (x ∷ rows) before found = (ap (λ b. cond b (Some e.1) (row_at all x.0)) (apart x.0 e.0 before.0) ∙ found.0, found_later e all rows before.1 found.1)

  all_found : (next : ℕ) (rows : Rows) → IsNumbered next rows → AreFound rows rows
  unfolding AreFound
  all_found next [] numbered = tt
  all_found next (e ∷ rows) numbered = (ap (λ b. cond b (Some e.1) (row_at rows e.0)) (self e.0), found_later e rows rows numbered.1 (all_found next rows numbered.2))

  passing_rows : (all rows : Rows) → AreFound all rows → filter_map (row_at all) (passing rows) ≡ filter test (values_of rows)
  unfolding passing AreFound
  passing_rows all [] found = refl
  passing_rows all (e ∷ rows) found = by (test e.1) (passing_rows all rows found.1)
    where
      by : (b : Bool) → filter_map (row_at all) (passing rows) ≡ filter test (values_of rows)
          → filter_map (row_at all) (cond b (e.0 ∷ passing rows) (passing rows)) ≡ cond b (e.1 ∷ filter test (values_of rows)) (filter test (values_of rows))
      by true h = ap (λ o. cons_option o (filter_map (row_at all) (passing rows))) found.0 ∙ ap (λ es. e.1 ∷ es) h
      by false h = h

  -- places in order, at which just those firings stand that pass
  places_found : (next : ℕ) (rows : Rows) (places : List ℕ) → IsNumbered next rows → IsStrictlySortedBy nat_cmp places → ((p : ℕ) → has_place places p ≡ is_held test (row_at rows p))
      → filter_map (row_at rows) places ≡ filter test (values_of rows)
  places_found next rows places numbered sorted same =
      ap (filter_map (row_at rows)) (same_in_order (λ m n. m < n) never_both places (passing rows) (sorted_order places sorted) (passing_order next rows numbered) both)
      ∙ passing_rows rows rows (all_found next rows numbered)
    where
      both : (p : ℕ) → IsIn p places ↔ IsIn p (passing rows)
      both p = (
        (λ h. held_passing p rows (sym (same p) ∙ in_place p places h)),
        (λ h. place_in p places (same p ∙ passing_held next p rows numbered h)),
      )

-- ---- by keys

key_held : (rows : Rows) (index : Index) (next mark : ℕ) (key : MatchKey) (p : ℕ) → IsStore rows index next mark
    → list_any (λ e. e.0.1 == p) (of_match key index.matches.entries) ≡ is_held (λ l. is_eq (key_cmp (match_of l) key)) (row_at rows p)
key_held rows index next mark key p store = key_places key p index.matches.entries ∙ ap (λ b. b && nat_le p (2 ^ 64 - 1)) (store.matches (key, p)) ∙ by (nat_le p (2 ^ 64 - 1)) refl
  where
    all : (b : Bool) → (b && true) ≡ b
    all true = refl
    all false = refl

    none : (b : Bool) → (b && false) ≡ false
    none true = refl
    none false = refl

    beyond : (m n : ℕ) → nat_le m (n - 1) ≡ false → n ≤ m
    beyond m n h = grind arith

    by : (b : Bool) → nat_le p (2 ^ 64 - 1) ≡ b → (is_held (λ l. is_eq (key_cmp (match_of l) key)) (row_at rows p) && b) ≡ is_held (λ l. is_eq (key_cmp (match_of l) key)) (row_at rows p)
    by true h = all (is_held (λ l. is_eq (key_cmp (match_of l) key)) (row_at rows p))
    by false h =
        let nothing : row_at rows p ≡ None = fresh_above next p rows store.numbered (omega (arith, beyond p (2 ^ 64) h, store.small)) in
        none (is_held (λ l. is_eq (key_cmp (match_of l) key)) (row_at rows p)) ∙ sym (ap (is_held (λ l. is_eq (key_cmp (match_of l) key))) nothing)

keys_held : (rows : Rows) (index : Index) (next mark : ℕ) (keys : List MatchKey) (p : ℕ) → IsStore rows index next mark
    → list_any (λ k. list_any (λ e. e.0.1 == p) (of_match k index.matches.entries)) keys ≡ is_held (λ l. list_any (λ k. is_eq (key_cmp (match_of l) k)) keys) (row_at rows p)
keys_held rows index next mark [] p store = by (row_at rows p)
  where
    by : (o : Option Live) → false ≡ is_held (λ l. false) o
    by None = refl
    by (Some l) = refl
keys_held rows index next mark (k ∷ keys) p store =
    ap₂ (λ a b. a || b) (key_held rows index next mark k p store) (keys_held rows index next mark keys p store) ∙ by (row_at rows p)
  where
    by : (o : Option Live) → (is_held (λ l. is_eq (key_cmp (match_of l) k)) o || is_held (λ l. list_any (λ k. is_eq (key_cmp (match_of l) k)) keys) o)
        ≡ is_held (λ l. list_any (λ k. is_eq (key_cmp (match_of l) k)) (k ∷ keys)) o
    by None = refl
    by (Some l) = refl

pub keys_found : (rows : Rows) (index : Index) (next mark : ℕ) (keys : BTreeSet MatchKey) (places : BTreeSet ℕ) → IsStore rows index next mark → ArePlacesOf keys.keys index.matches.entries places → set.IsOrdered nat_cmp places
    → filter_map (row_at rows) places.keys ≡ filter (λ l. set.contains key_cmp keys (match_of l)) (values_of rows)
keys_found rows index next mark keys places store are ordered =
    places_found (λ l. set.contains key_cmp keys (match_of l)) next rows places.keys store.numbered ordered (λ p. are p ∙ keys_held rows index next mark keys.keys p store)
