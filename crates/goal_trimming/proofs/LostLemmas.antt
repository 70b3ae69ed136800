-- What is lost is found by what was looked at.
use Rattle.std.proofs.Common.{◌≡◌, ◌∙◌, refl, sym, ap, ℕ, ◌==◌, ◌&&◌, ◌||◌, Bool, true, false, not, cond, arith, List, [], ◌∷◌, ◌++◌, append_assoc, filter, Option, Some, None}
use Rattle.std.specs.Prelude.{take}
use Rattle.std.proofs.lemmas.List.Folds.{list_any-append}
use Rattle.soar_sym.specs.Equality.{symbol_eq}
use Rattle.soar_sym.specs.declared.symbol.Triple.{Triple}
use Rattle.soar_wm.specs.declared.element.Element.{Element}
use Rattle.soar_wm.specs.WorkingMemory.{IsDistinct, IsLawful, WorkingMemory, element_of, has_triple, tag_of, triple_of}
use Rattle.defs_soar.specs.Trimming.{is_lost}
use Rattle.defs_soar.specs.Values.{has_triple_among}
use Rattle.settling_laws.proofs.SymbolOrderLemmas.{symbol_same}
use Rattle.soar_prefs.specs.Memory.{has_plain}
use Rattle.kept_triples.proofs.TripleOrderLemmas.{both}
use Rattle.touched_tags.specs.Looked.{first_with as element_with}
use Rattle.touched_tags.proofs.FirstLemmas.{at_tag_in, in_is_first}
use Rattle.touched_tags.proofs.MemberLemmas.{same_some}
use Rattle.dependency_tables.specs.Tables.{all_tags, each_with_tags, first_with, is_among, is_in_tables}
use Rattle.dependency_tables.proofs.FindingLemmas.{in_first, in_joined, in_pushed, none_such, same_first}
use Rattle.goal_trimming.specs.Doubted.{AreDoubted}
use Rattle.goal_trimming.specs.Lost.{AreLooked, is_touched, lost_among, lost_at, lost_of, lost_with, where_lost, with_mark}

-- ---- what is added

pub both_added : (first second third a b : List ℕ) → second ≡ first ++ a → third ≡ second ++ b → third ≡ first ++ (a ++ b)
both_added first second third a b h k = k ∙ ap (λ l. l ++ b) h ∙ append_assoc first a b

-- ---- tags among others

apart : true ≡ false → ⊥
apart h = cc

itself : (n : ℕ) → (n == n) ≡ true
itself n = grind arith

same_number : (m n : ℕ) → (m == n) ≡ true → m ≡ n
same_number m n h = grind arith

first_true : (a b : Bool) → a ≡ true → (a || b) ≡ true
first_true a b h = ap (λ x. x || b) h

then_true : (a b : Bool) → b ≡ true → (a || b) ≡ true
then_true true b h = refl
then_true false b h = h

in_front : (xs ys : List ℕ) (n : ℕ) → is_among xs n ≡ true → is_among (xs ++ ys) n ≡ true
in_front xs ys n h = list_any-append (λ m. m == n) xs ys ∙ first_true (is_among xs n) (is_among ys n) h

behind : (xs ys : List ℕ) (n : ℕ) → is_among ys n ≡ true → is_among (xs ++ ys) n ≡ true
behind xs ys n h = list_any-append (λ m. m == n) xs ys ∙ then_true (is_among xs n) (is_among ys n) h

-- such a number is in one of both
module _ (P : Type 0) where
  of_either : (a b : Bool) → (a || b) ≡ true → (a ≡ true → P) → (b ≡ true → P) → P
  of_either true b h f g = f refl
  of_either false b h f g = g h

  of_append : (xs ys : List ℕ) (n : ℕ) → is_among (xs ++ ys) n ≡ true → (is_among xs n ≡ true → P) → (is_among ys n ≡ true → P) → P
  of_append xs ys n h = of_either (is_among xs n) (is_among ys n) (sym (list_any-append (λ m. m == n) xs ys) ∙ h)

module _ (p : ℕ → Bool) where
  filtered_is : (xs : List ℕ) (n : ℕ) → is_among (filter p xs) n ≡ true → p n ≡ true
  filtered_is [] n h = absurd (cc)
  filtered_is (x ∷ xs) n h = by (p x) refl h (filtered_is xs n)
    where
      by : (b : Bool) → p x ≡ b → is_among (cond b (x ∷ filter p xs) (filter p xs)) n ≡ true → (is_among (filter p xs) n ≡ true → p n ≡ true) → p n ≡ true
      by false e k later = later k
      by true e k later = of_either (p n ≡ true) (x == n) (is_among (filter p xs) n) k (λ same. ap p (sym (same_number x n same)) ∙ e) later

  is_filtered : (xs : List ℕ) (n : ℕ) → p n ≡ true → is_among xs n ≡ true → is_among (filter p xs) n ≡ true
  is_filtered [] n such h = h
  is_filtered (x ∷ xs) n such h = by (p x) refl (is_filtered xs n such)
    where
      by : (b : Bool) → p x ≡ b → (is_among xs n ≡ true → is_among (filter p xs) n ≡ true) → is_among (cond b (x ∷ filter p xs) (filter p xs)) n ≡ true
      by true e later = of_either (is_among (x ∷ filter p xs) n ≡ true) (x == n) (is_among xs n) h (first_true (x == n) (is_among (filter p xs) n)) (λ i. then_true (x == n) (is_among (filter p xs) n) (later i))
      by false e later = of_either (is_among (filter p xs) n ≡ true) (x == n) (is_among xs n) h (λ same. absurd (apart (sym such ∙ ap p (sym (same_number x n same)) ∙ e))) later

-- ---- triples

abbrev is_plain : Triple → Triple → Bool
is_plain t u = symbol_eq u.id t.id && (symbol_eq u.attr t.attr && symbol_eq u.value t.value)

marked_as : (t u : Triple) → is_plain t u ≡ true → with_mark u t.accept ≡ t
marked_as t u h =
    let first = both (symbol_eq u.id t.id) (symbol_eq u.attr t.attr && symbol_eq u.value t.value) h in
    let second = both (symbol_eq u.attr t.attr) (symbol_eq u.value t.value) first.1 in
    λ i. record {
      id = symbol_same u.id t.id first.0 i;
      attr = symbol_same u.attr t.attr second.0 i;
      value = symbol_same u.value t.value second.1 i;
      accept = t.accept;
    }

tag_with : (t : Triple) (elements : List Element) (e : Element) → element_with t elements ≡ Some e → tag_of t elements ≡ Some e.tag
tag_with t [] e h = absurd (cc)
tag_with t (f ∷ elements) e h = by (has_triple t f) h (tag_with t elements e)
  where
    by : (c : Bool) → cond c (Some f) (element_with t elements) ≡ Some e → (element_with t elements ≡ Some e → tag_of t elements ≡ Some e.tag)
        → cond c (Some f.tag) (tag_of t elements) ≡ Some e.tag
    by true k later = ap (λ (g : Element). Some g.tag) (same_some f e k)
    by false k later = later k

-- ---- what is lost

module _ (elements : List Element) (kept : List Triple) where
  where_is : (tag n : ℕ) → is_among (where_lost elements kept tag) n ≡ true → is_lost elements kept n ≡ true
  where_is tag n h = by (is_lost elements kept tag) refl h
    where
      by : (b : Bool) → is_lost elements kept tag ≡ b → is_among (cond b (tag ∷ []) []) n ≡ true → is_lost elements kept n ≡ true
      by true e k = of_either (is_lost elements kept n ≡ true) (tag == n) false k (λ same. ap (is_lost elements kept) (sym (same_number tag n same)) ∙ e) (λ none. absurd (apart (sym none)))
      by false e k = absurd (apart (sym k))

  with_is : (t : Triple) (n : ℕ) → is_among (lost_with elements kept t) n ≡ true → is_lost elements kept n ≡ true
  with_is t n h = by (tag_of t elements) h
    where
      by : (o : Option ℕ) → is_among (elim o as (λ _. List ℕ) [ None ↦ [] | Some tag ↦ where_lost elements kept tag ]) n ≡ true → is_lost elements kept n ≡ true
      by None k = absurd (apart (sym k))
      by (Some tag) k = where_is tag n k

  of_is : (touched : List Triple) (n : ℕ) → is_among (lost_of elements kept touched) n ≡ true → is_lost elements kept n ≡ true
  of_is [] n h = absurd (apart (sym h))
  of_is (t ∷ touched) n h =
      of_append (is_lost elements kept n ≡ true) (lost_at elements kept t) (lost_of elements kept touched) n h
      (λ at. of_append (is_lost elements kept n ≡ true) (lost_with elements kept (with_mark t false)) (lost_with elements kept (with_mark t true)) n at (with_is (with_mark t false) n) (with_is (with_mark t true) n))
      (of_is touched n)

  -- what is found is lost
  all_lost : (doubted : List ℕ) (touched : List Triple) (n : ℕ) → is_among (lost_among elements kept doubted touched) n ≡ true → is_lost elements kept n ≡ true
  all_lost doubted touched n h =
      of_append (is_lost elements kept n ≡ true) (filter (is_lost elements kept) doubted) (lost_of elements kept touched) n h (filtered_is (is_lost elements kept) doubted n) (of_is touched n)

  here_with : (t : Triple) (n : ℕ) → tag_of t elements ≡ Some n → is_lost elements kept n ≡ true → is_among (lost_with elements kept t) n ≡ true
  here_with t n at lost =
      ap (λ (o : Option ℕ). is_among (elim o as (λ _. List ℕ) [ None ↦ [] | Some tag ↦ where_lost elements kept tag ]) n) at
      ∙ ap (λ (b : Bool). is_among (cond b (n ∷ []) []) n) lost
      ∙ first_true (n == n) false (itself n)

  here_at : (u : Triple) (mark : Bool) (n : ℕ) → is_among (lost_with elements kept (with_mark u mark)) n ≡ true → is_among (lost_at elements kept u) n ≡ true
  here_at u false n h = in_front (lost_with elements kept (with_mark u false)) (lost_with elements kept (with_mark u true)) n h
  here_at u true n h = behind (lost_with elements kept (with_mark u false)) (lost_with elements kept (with_mark u true)) n h

  here_of : (touched : List Triple) (t : Triple) (n : ℕ) → has_plain touched t ≡ true → tag_of t elements ≡ Some n → is_lost elements kept n ≡ true → is_among (lost_of elements kept touched) n ≡ true
  here_of [] t n h at lost = absurd (cc)
  here_of (u ∷ touched) t n h at lost = by (is_plain t u) refl h (λ k. here_of touched t n k at lost)
    where
      by : (b : Bool) → is_plain t u ≡ b → (b || has_plain touched t) ≡ true → (has_plain touched t ≡ true → is_among (lost_of elements kept touched) n ≡ true)
          → is_among (lost_at elements kept u ++ lost_of elements kept touched) n ≡ true
      by true e k later =
          in_front (lost_at elements kept u) (lost_of elements kept touched) n
          (here_at u t.accept n (ap (λ x. is_among (lost_with elements kept x) n) (marked_as t u e) ∙ here_with t n at lost))
      by false e k later = behind (lost_at elements kept u) (lost_of elements kept touched) n (later k)

  -- what is lost is found
  here_among : (doubted : List ℕ) (touched : List Triple) (n : ℕ) → IsDistinct elements → is_lost elements kept n ≡ true → (is_among doubted n || is_touched elements touched n) ≡ true
      → is_among (lost_among elements kept doubted touched) n ≡ true
  here_among doubted touched n distinct lost h =
      of_either (is_among (lost_among elements kept doubted touched) n ≡ true) (is_among doubted n) (is_touched elements touched n) h
      (λ doubt. in_front (filter (is_lost elements kept) doubted) (lost_of elements kept touched) n (is_filtered (is_lost elements kept) doubted n lost doubt))
      (λ touch. behind (filter (is_lost elements kept) doubted) (lost_of elements kept touched) n (go (element_of n elements) refl touch))
    where
      go : (o : Option Element) → element_of n elements ≡ o → ◌≡◌ {A = Bool} (elim o [ None ↦ false | Some e ↦ has_plain touched (triple_of e) ]) true → is_among (lost_of elements kept touched) n ≡ true
      go None at touch = absurd (apart (sym touch))
      go (Some e) at touch =
          let there = at_tag_in n elements e at in
          here_of touched (triple_of e) n touch (tag_with (triple_of e) elements e (in_is_first e elements distinct there.0) ∙ ap Some there.1) lost

-- the highest goal that depends on what is found lost something
pub found_is : (memory : WorkingMemory) (kept : List Triple) (tables : List (List ℕ)) (doubted : List ℕ) (touched : List Triple) (lost : List ℕ) → IsLawful memory
    → lost ≡ lost_among memory.elements kept doubted touched → AreLooked tables memory.elements kept doubted touched
    → first_with (is_among lost) 2 tables ≡ first_with (is_lost memory.elements kept) 2 tables
found_is memory kept tables doubted touched lost lawful is looked =
    same_first (is_among lost) (is_lost memory.elements kept) 2 tables (λ tag i. ap (λ l. is_among l tag) is ∙ by tag i (is_among (lost_among memory.elements kept doubted touched) tag) refl (is_lost memory.elements kept tag) refl)
  where
    by : (tag : ℕ) → is_in_tables tables tag ≡ true → (a : Bool) → is_among (lost_among memory.elements kept doubted touched) tag ≡ a → (b : Bool) → is_lost memory.elements kept tag ≡ b
        → is_among (lost_among memory.elements kept doubted touched) tag ≡ is_lost memory.elements kept tag
    by tag i true p true q = p ∙ sym q
    by tag i true p false q = absurd (apart (sym (all_lost memory.elements kept doubted touched tag p) ∙ q))
    by tag i false p true q = absurd (apart (sym (here_among memory.elements kept doubted touched tag lawful.distinct q (looked tag i q)) ∙ p))
    by tag i false p false q = p ∙ sym q

-- ---- what is doubted

-- what was not lost before, and is now, was looked at
pub looked_at : (tables : List (List ℕ)) (elements : List Element) (before after : List Triple) (doubted : List ℕ) (touched : List Triple) → AreDoubted tables elements before doubted
    → ((t : Triple) → has_plain touched t ≡ false → has_triple_among after t ≡ has_triple_among before t) → AreLooked tables elements after doubted touched
looked_at tables elements before after doubted touched are same tag i lost = by (is_lost elements before tag) refl
  where
    go : (o : Option Element) → ◌≡◌ {A = Bool} (elim o [ None ↦ true | Some e ↦ not (has_triple_among before (triple_of e)) ]) false
        → ◌≡◌ {A = Bool} (elim o [ None ↦ true | Some e ↦ not (has_triple_among after (triple_of e)) ]) true
        → ◌≡◌ {A = Bool} (elim o [ None ↦ false | Some e ↦ has_plain touched (triple_of e) ]) true
    go None was is = absurd (apart was)
    go (Some e) was is = named (has_plain touched (triple_of e)) refl
      where
        named : (b : Bool) → has_plain touched (triple_of e) ≡ b → has_plain touched (triple_of e) ≡ true
        named true k = k
        named false k = absurd (apart (sym is ∙ ap not (same (triple_of e) k) ∙ was))

    by : (b : Bool) → is_lost elements before tag ≡ b → (is_among doubted tag || is_touched elements touched tag) ≡ true
    by true e = first_true (is_among doubted tag) (is_touched elements touched tag) (are tag i e)
    by false e = then_true (is_among doubted tag) (is_touched elements touched tag) (go (element_of tag elements) e lost)

-- of the first tables no more is doubted
pub doubted_first : (n : ℕ) (tables : List (List ℕ)) (elements : List Element) (kept : List Triple) (doubted : List ℕ) → AreDoubted tables elements kept doubted → AreDoubted (take n tables) elements kept doubted
doubted_first n tables elements kept doubted are tag i lost = are tag (in_first n tables tag i) lost

-- tables that have no tag doubt none
pub none_doubted : (tables : List (List ℕ)) (elements : List Element) (kept : List Triple) (doubted : List ℕ) → tables ≡ [] → AreDoubted tables elements kept doubted
none_doubted tables elements kept doubted none tag i lost = absurd (apart (sym i ∙ ap (λ l. is_in_tables l tag) none))

-- with one table more, that has no tag, no more is doubted
pub doubted_pushed : (tables : List (List ℕ)) (elements : List Element) (kept : List Triple) (doubted : List ℕ) → AreDoubted tables elements kept doubted → AreDoubted (tables ++ [] ∷ []) elements kept doubted
doubted_pushed tables elements kept doubted are tag i lost = are tag (sym (in_pushed tables tag) ∙ i) lost

-- with more tags, these are doubted too
pub doubted_joined : (tables more : List (List ℕ)) (elements : List Element) (kept : List Triple) (doubted : List ℕ) → AreDoubted tables elements kept doubted
    → AreDoubted (each_with_tags tables more) elements kept (doubted ++ all_tags more)
doubted_joined tables more elements kept doubted are tag i lost =
    of_either (is_among (doubted ++ all_tags more) tag ≡ true) (is_in_tables tables tag) (is_among (all_tags more) tag) (in_joined tables more tag i)
    (λ old. in_front doubted (all_tags more) tag (are tag old lost))
    (behind doubted (all_tags more) tag)

-- where no goal is broken, nothing is lost
pub nothing_lost : (tables : List (List ℕ)) (elements : List Element) (kept : List Triple) → first_with (is_lost elements kept) 2 tables ≡ None → AreDoubted tables elements kept []
nothing_lost tables elements kept none tag i lost = sym (none_such (is_lost elements kept) 2 tables none tag i) ∙ lost
