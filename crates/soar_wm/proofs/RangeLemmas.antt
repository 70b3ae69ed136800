-- The elements of an identifier, as the map by identifier has them.
use Rattle.std.proofs.Common.{◌≡◌, ℕ, ◌-◌, ◌^◌, ◌<◌, ◌≤◌, ◌==◌, nat_le, Bool, true, false, true≢false, ◌&&◌, not, cond, List, [], ◌∷◌, filter, filter_map, Option, Some, None, refl, sym, ap, ap₂, subst, ◌∙◌, arith}
use Rattle.std.specs.BTreeMap.{is_at}
use Rattle.std.specs.BTreeMap.Range.{range_contains}
use Rattle.std.specs.List.{AllByRecursion, cons_option}
use Rattle.std.specs.List.Sorted.{IsStrictlySortedBy}
use Rattle.std.specs.Map.{keys_of}
use Rattle.std.specs.Ordering.{is_eq, is_le, is_lt, nat_cmp, ordering_then}
use Rattle.std.specs.declared.cmp.Ordering.{Ordering}
use Rattle.std.specs.declared.cmp.Ordering.TheVariants.{Less, Equal, Greater}
use Rattle.std.specs.declared.ops.Bound.TheVariants.{Included}
use Rattle.std.proofs.lemmas.List.Kept.{IsStrictlySortedBy-filter}
use Rattle.std.proofs.lemmas.Map.Entries.{lookup-filter-keys}
use Rattle.soar_sym.specs.Equality.{symbol_eq}
use Rattle.soar_sym.specs.declared.symbol.Sym.{Sym}
use Rattle.soar_wm.specs.declared.element.Element.{Element}
use Rattle.soar_wm.specs.Shelf.{Place, Tags, Triples, Ids, listed, at_tag, at_id, place_of, place_cmp, id_cmp, of_place, cell_of, of_symbol, has_place, mark_at, IsShelf}
use Rattle.soar_wm.specs.WorkingMemory.{has_tag, element_of, elements_of, IsBelow, IsRising, IsGiven}
use Rattle.soar_wm.proofs.EntryLemmas.{same_entries}
use Rattle.soar_wm.proofs.KeyLemmas.{then_same, nat_same, nat_turned, nat_is, symbol_is, equal, place_is, place_tied, place_turned, id_total, id_exact, later_id}
use Rattle.soar_wm.proofs.ShelfLemmas.{found, element_above, element_below}

-- what the map has to have of a place
made : Place → List Element → Ids
made place [] = []
made place (e ∷ es) = cond (has_place place e) (((place, e.tag), tt) ∷ made place es) (made place es)

-- each is the element of its tag

abbrev IsFound : List Element → List Element → Type 0
IsFound all [] = Unit {0}
IsFound all (e ∷ es) = (element_of e.tag all ≡ Some e) × IsFound all es

found_more : (x : Element) (all es : List Element) → IsBelow x.tag es → IsFound all es → IsFound (x ∷ all) es
found_more x all [] below each = tt
found_more x all (e ∷ es) below each = (ap (λ b. cond b (Some x) (element_of e.tag all)) (apart x.tag e.tag below.0) ∙ each.0, found_more x all es below.1 each.1)
  where
    apart : (m n : ℕ) → m < n → (m == n) ≡ false
    apart m n h = grind arith

each_found : (es : List Element) → IsRising es → IsFound es es
each_found [] rising = tt
each_found (e ∷ es) rising = (ap (λ b. cond b (Some e) (element_of e.tag es)) (self e.tag), found_more e es es rising.0 (each_found es rising.1))
  where
    self : (n : ℕ) → (n == n) ≡ true
    self n = grind arith

-- the elements of an identifier are among those of its place

abbrev picked : Sym → List Element → (Place × ℕ) × Unit {0} → Option Element
picked id all x = of_symbol id (element_of x.0.1 all)

made_elements : (id : Sym) (all es : List Element) → IsFound all es → filter_map (picked id all) (made (place_of id) es) ≡ elements_of id es
unfolding made
made_elements id all [] each = refl
made_elements id all (e ∷ es) each = by (has_place (place_of id) e) refl (symbol_eq e.id id) refl (made_elements id all es each.1)
  where
    of_one : (s : Bool) → symbol_eq e.id id ≡ s → picked id all ((place_of id, e.tag), tt) ≡ cond s (Some e) None
    of_one s is = ap (of_symbol id) each.0 ∙ ap (λ b. cond b (Some e) None) is

    own : symbol_eq e.id id ≡ true → has_place (place_of id) e ≡ true
    own same = ap (λ s. is_eq (place_cmp (place_of s) (place_of id))) (symbol_is e.id id same) ∙ ap is_eq (place_tied (place_of id))

    by : (p : Bool) → has_place (place_of id) e ≡ p → (s : Bool) → symbol_eq e.id id ≡ s → filter_map (picked id all) (made (place_of id) es) ≡ elements_of id es
        → filter_map (picked id all) (cond p (((place_of id, e.tag), tt) ∷ made (place_of id) es) (made (place_of id) es)) ≡ cond s (e ∷ elements_of id es) (elements_of id es)
    by true here true is h = ap (λ o. cons_option o (filter_map (picked id all) (made (place_of id) es))) (of_one true is) ∙ ap (λ xs. e ∷ xs) h
    by true here false is h = ap (λ o. cons_option o (filter_map (picked id all) (made (place_of id) es))) (of_one false is) ∙ h
    by false away true is h = absurd (true≢false (sym (own is) ∙ away))
    by false away false is h = h

-- in order

made_above : (place : Place) (tag : ℕ) (es : List Element) → IsBelow tag es → AllByRecursion (λ q. id_cmp (place, tag) q ≡ Less) (keys_of (made place es))
unfolding made
made_above place tag [] below = tt
made_above place tag (e ∷ es) below = by (has_place place e) (made_above place tag es below.1)
  where
    by : (b : Bool) → AllByRecursion (λ q. id_cmp (place, tag) q ≡ Less) (keys_of (made place es))
        → AllByRecursion (λ q. id_cmp (place, tag) q ≡ Less) (keys_of (cond b (((place, e.tag), tt) ∷ made place es) (made place es)))
    by true h = (later_id place tag e.tag below.0, h)
    by false h = h

made_sorted : (place : Place) (es : List Element) → IsRising es → IsStrictlySortedBy id_cmp (keys_of (made place es))
unfolding made IsStrictlySortedBy
made_sorted place [] rising = tt
made_sorted place (e ∷ es) rising = by (has_place place e) (made_sorted place es rising.1)
  where
    by : (b : Bool) → IsStrictlySortedBy id_cmp (keys_of (made place es)) → IsStrictlySortedBy id_cmp (keys_of (cond b (((place, e.tag), tt) ∷ made place es) (made place es)))
    by true h = (made_above place e.tag es rising.0, h)
    by false h = h

keys_filter : {K X : Type 0} (p : K → Bool) (es : List (K × X)) → keys_of (filter (λ e. p e.0) es) ≡ filter p (keys_of es)
keys_filter p [] = refl
keys_filter {K} {X} p (e ∷ es) = by (p e.0) (keys_filter p es)
  where
    by : (b : Bool) → keys_of (filter (λ (x : K × X). p x.0) es) ≡ filter p (keys_of es) → keys_of (cond b (e ∷ filter (λ (x : K × X). p x.0) es) (filter (λ (x : K × X). p x.0) es)) ≡ cond b (e.0 ∷ filter p (keys_of es)) (filter p (keys_of es))
    by true h = ap (λ l. e.0 ∷ l) h
    by false h = h

-- at each key

-- what the map has at a place and a tag
made_at : (place : Place) (es : List Element) (q : Place × ℕ) → IsRising es → at_id (made place es) q ≡ cond (is_eq (place_cmp q.0 place)) (mark_at place (element_of q.1 es)) None
unfolding made
made_at place [] q rising = none (is_eq (place_cmp q.0 place))
  where
    none : (b : Bool) → None ≡ cond b (mark_at place None) None
    none true = refl
    none false = refl
made_at place (e ∷ es) q rising = by (has_place place e) refl (made_at place es q rising.1)
  where
    rest : Option Element
    rest = element_of q.1 es

    test : is_eq (id_cmp q (place, e.tag)) ≡ (is_eq (place_cmp q.0 place) && (e.tag == q.1))
    test = then_same (place_cmp q.0 place) (nat_cmp q.1 e.tag) ∙ ap (λ b. is_eq (place_cmp q.0 place) && b) (nat_same q.1 e.tag ∙ nat_turned q.1 e.tag)

    both : (s n : Bool) (deep : Option (Unit {0})) → deep ≡ cond s (mark_at place rest) None → has_place place e ≡ true → cond (s && n) (Some tt) deep ≡ cond s (mark_at place (cond n (Some e) rest)) None
    both true true deep h own = sym (ap (λ b. cond b (Some tt) None) own)
    both true false deep h own = h
    both false n deep h own = h

    one : (s n : Bool) → (n ≡ true → rest ≡ None) → (e.tag == q.1) ≡ n → has_place place e ≡ false → cond s (mark_at place rest) None ≡ cond s (mark_at place (cond n (Some e) rest)) None
    one true true absent is own = ap (mark_at place) (absent refl) ∙ sym (ap (λ b. cond b (Some tt) None) own)
    one true false absent is own = refl
    one false n absent is own = refl

    by : (b : Bool) → has_place place e ≡ b → at_id (made place es) q ≡ cond (is_eq (place_cmp q.0 place)) (mark_at place rest) None
        → at_id (cond b (((place, e.tag), tt) ∷ made place es) (made place es)) q ≡ cond (is_eq (place_cmp q.0 place)) (mark_at place (cond (has_tag q.1 e) (Some e) rest)) None
    by true own h = ap (λ b. cond b (Some tt) (at_id (made place es) q)) test ∙ both (is_eq (place_cmp q.0 place)) (e.tag == q.1) (at_id (made place es) q) h own
    by false own h =
        h ∙ one (is_eq (place_cmp q.0 place)) (e.tag == q.1) (λ is. ap (λ n. element_of n es) (sym (nat_is e.tag q.1 is)) ∙ element_below e.tag es rising.0) refl own

in_range : Place → Place × ℕ → Bool
in_range place q = range_contains id_cmp (Included (place, 0)) (Included (place, 2 ^ 32 - 1)) q

-- outside of the range stands another place, or a tag that is too large
outside : (place : Place) (q : Place × ℕ) → is_eq (place_cmp q.0 place) ≡ false → in_range place q ≡ false
unfolding in_range
outside place q apart = by (place_cmp place q.0) (place_turned place q.0 ∙ apart)
  where
    by : (o : Ordering) → is_eq o ≡ false → (is_le (ordering_then o (nat_cmp 0 q.1)) && not (is_lt (ordering_then o (nat_cmp (2 ^ 32 - 1) q.1)))) ≡ false
    by Less h = refl
    by Equal h = absurd (cc)
    by Greater h = refl

inside : (place : Place) (n : ℕ) → n ≤ 2 ^ 32 - 1 → in_range place (place, n) ≡ true
unfolding in_range
inside place n small =
    ap (λ o. is_le (ordering_then o (nat_cmp 0 n)) && not (is_lt (ordering_then o (nat_cmp (2 ^ 32 - 1) n)))) (place_tied place) ∙ ap₂ (λ a b. a && not b) (from n) (upto (2 ^ 32 - 1) n small)
  where
    from : (n : ℕ) → is_le (nat_cmp 0 n) ≡ true
    from n = grind arith

    upto : (m n : ℕ) → n ≤ m → is_lt (nat_cmp m n) ≡ false
    upto m n h = grind arith

range_at : (es : List Element) (ids : Ids) (place : Place) (last : ℕ) (q : Place × ℕ) → at_id ids q ≡ mark_at q.0 (element_of q.1 es) → IsGiven last es → last < 2 ^ 32
    → at_id (of_place place ids) q ≡ cond (is_eq (place_cmp q.0 place)) (mark_at place (element_of q.1 es)) None
unfolding in_range
range_at es ids place last q at given small =
    lookup-filter-keys (is_at (id_cmp q)) (in_range place) (in_range place q) (λ k same. ap (in_range place) (sym (id_exact q k (equal (id_cmp q k) same)))) ids
    ∙ ap (λ o. cond (in_range place q) o None) at ∙ by (is_eq (place_cmp q.0 place)) refl
  where
    below : (m n : ℕ) → nat_le m n ≡ true → m ≤ n
    below m n h = grind arith

    above_all : (m n : ℕ) → nat_le m n ≡ false → n < m
    above_all m n h = grind arith

    large : (b : Bool) → nat_le q.1 (2 ^ 32 - 1) ≡ b → cond (in_range place (place, q.1)) (mark_at place (element_of q.1 es)) None ≡ mark_at place (element_of q.1 es)
    large true h = ap (λ b. cond b (mark_at place (element_of q.1 es)) None) (inside place q.1 (below q.1 (2 ^ 32 - 1) h))
    large false h =
        let nothing : element_of q.1 es ≡ None = element_above es last q.1 given (omega (arith, above_all q.1 (2 ^ 32 - 1) h, small)) in
        ap (λ o. cond (in_range place (place, q.1)) (mark_at place o) None) nothing ∙ none (in_range place (place, q.1)) ∙ sym (ap (mark_at place) nothing)
      where
        none : (b : Bool) → cond {A = Option (Unit {0})} b None None ≡ None
        none true = refl
        none false = refl

    by : (b : Bool) → is_eq (place_cmp q.0 place) ≡ b → cond (in_range place q) (mark_at q.0 (element_of q.1 es)) None ≡ cond b (mark_at place (element_of q.1 es)) None
    by true h = ap (λ p. cond (in_range place (p, q.1)) (mark_at p (element_of q.1 es)) None) (place_is q.0 place h) ∙ large (nat_le q.1 (2 ^ 32 - 1)) refl
    by false h = ap (λ b. cond b (mark_at q.0 (element_of q.1 es)) None) (outside place q h)

-- the elements of an identifier, from the map by identifier
pub id_found : (cells : ℕ → Option Element) (tags : Tags) (triples : Triples) (ids : Ids) (id : Sym) (last : ℕ) → IsShelf cells tags triples ids → IsRising (listed cells tags) → IsGiven last (listed cells tags) → last < 2 ^ 32
    → IsStrictlySortedBy id_cmp (keys_of ids) → filter_map (λ e. of_symbol id (cell_of cells (at_tag tags e.0.1))) (of_place (place_of id) ids) ≡ elements_of id (listed cells tags)
unfolding in_range
id_found cells tags triples ids id last shelf rising given small ordered =
    let place : Place = place_of id in
    let same : of_place place ids ≡ made place (listed cells tags)
    = same_entries id_total id_exact (of_place place ids) (made place (listed cells tags)) (subst (IsStrictlySortedBy id_cmp) (sym (keys_filter (in_range place) ids)) (IsStrictlySortedBy-filter id_cmp (in_range place) (keys_of ids) ordered))
    (made_sorted place (listed cells tags) rising) (λ q. range_at (listed cells tags) ids place last q (shelf.by_id q) given small ∙ sym (made_at place (listed cells tags) q rising)) in
    (λ i. filter_map (λ e. of_symbol id (found cells tags e.0.1 shelf.stored i)) (of_place place ids))
    ∙ ap (filter_map (picked id (listed cells tags))) same ∙ made_elements id (listed cells tags) (listed cells tags) (each_found (listed cells tags) rising)
