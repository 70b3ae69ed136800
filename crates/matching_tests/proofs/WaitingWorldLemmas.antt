-- What a matcher was told, after each call.
use Rattle.std.proofs.Common.{◌≡◌, ℕ, ◌+◌, ◌<◌, ◌≤◌, ◌==◌, nat_lt, Bool, true, false, cond, not, ◌&&◌, ◌||◌, List, [], ◌∷◌, ◌++◌, filter, Some, None, refl, sym, subst, ap, ap₂, ◌∙◌, arith}
use Rattle.std.specs.List.{list_any}
use Rattle.std.proofs.lemmas.List.Folds.{list_any-append}
use Rattle.soar_sym.specs.declared.symbol.Triple.{Triple}
use Rattle.soar_wm.specs.declared.element.Element.{Element}
use Rattle.soar_wm.specs.WorkingMemory.{AddsNew, IsGiven, IsLawful, WorkingMemory, element_for, has_tag, has_triple, tag_of, without_tag}
use Rattle.defs_match.specs.Contents.{HasTag, IsNewElement, is_numbered, with_element, with_rule, without_rule}
use Rattle.defs_match.specs.Rules.{RuleOf}
use Rattle.matching_tests.specs.WaitingWorlds.{AreTold}

-- ---- elements

not_below : (m n : ℕ) → n ≤ m → nat_lt m n ≡ false
not_below m n h = grind arith

below_apart : (m n : ℕ) → m < n → (m == n) ≡ false
below_apart m n h = grind arith

-- above all tags, the place is the end
with_last : (last : ℕ) (elements : List Element) (e : Element) → IsGiven last elements → last < e.tag → with_element elements e ≡ elements ++ e ∷ []
with_last last [] e given less = refl
with_last last (f ∷ elements) e given less =
    ap (λ b. cond b (e ∷ f ∷ elements) (f ∷ with_element elements e)) (not_below e.tag f.tag (omega (arith, given.1, less)))
    ∙ ap (λ l. f ∷ l) (with_last last elements e given.2 less)

tag_is_new : (last tag : ℕ) (elements : List Element) → IsGiven last elements → last < tag → list_any (has_tag tag) elements ≡ false
tag_is_new last tag [] given less = refl
tag_is_new last tag (e ∷ elements) given less =
    ap₂ (λ a b. a || b) (below_apart e.tag tag (omega (arith, given.1, less))) (tag_is_new last tag elements given.2 less)

triple_is_new : (t : Triple) (elements : List Element) → tag_of t elements ≡ None → list_any (has_triple t) elements ≡ false
triple_is_new t [] none = refl
triple_is_new t (e ∷ elements) none = by (has_triple t e) none (triple_is_new t elements)
  where
    by : (b : Bool) → cond b (Some e.tag) (tag_of t elements) ≡ None → (tag_of t elements ≡ None → list_any (has_triple t) elements ≡ false)
        → (b || list_any (has_triple t) elements) ≡ false
    by true none later = absurd (cc)
    by false none later = later none

is_new : (m : WorkingMemory) (t : Triple) (of_state : Bool) → IsLawful m → tag_of t m.elements ≡ None → IsNewElement m.elements (element_for (m.last + 1) t of_state)
is_new m t of_state lawful none = record {
  new_tag = tag_is_new m.last (m.last + 1) m.elements lawful.given (omega arith);
  new_triple = triple_is_new t m.elements none;
}

pub may_come : (elements : List Element) (e : Element) (old new : WorkingMemory) (t : Triple) (of_state : Bool) (tag : ℕ)
    → elements ≡ old.elements → IsLawful old → AddsNew old new t of_state tag → e ≡ element_for tag t of_state → IsNewElement elements e
may_come elements e old new t of_state tag same lawful adds is =
    subst (λ l. IsNewElement l e) (sym same)
    (subst (IsNewElement old.elements) (sym (is ∙ ap (λ n. element_for n t of_state) adds.tag_is)) (is_new old t of_state lawful adds.missing))

found_tag : (t : Triple) (tag : ℕ) (elements : List Element) → tag_of t elements ≡ Some tag → HasTag elements tag
found_tag t tag [] found = absurd (cc)
found_tag t tag (e ∷ elements) found = by (has_triple t e) found (found_tag t tag elements)
  where
    itself : (n : ℕ) → n ≡ tag → (n == tag) ≡ true
    itself n same = grind arith

    later_too : (a b : Bool) → b ≡ true → (a || b) ≡ true
    later_too true b h = refl
    later_too false b h = h

    by : (b : Bool) → cond b (Some e.tag) (tag_of t elements) ≡ Some tag → (tag_of t elements ≡ Some tag → HasTag elements tag) → HasTag (e ∷ elements) tag
    by true found later = ap (λ b. b || list_any (has_tag tag) elements) (itself e.tag (cc))
    by false found later = later_too (has_tag tag e) (list_any (has_tag tag) elements) (later found)

pub may_go : (elements : List Element) (m : WorkingMemory) (t : Triple) (tag : ℕ) → elements ≡ m.elements → Some tag ≡ tag_of t m.elements → HasTag elements tag
may_go elements m t tag same found = subst (λ l. HasTag l tag) (sym same) (found_tag t tag m.elements (sym found))

-- ---- rules

or_swapped : (a b : Bool) → (a || b) ≡ (b || a)
or_swapped true true = refl
or_swapped true false = refl
or_swapped false true = refl
or_swapped false false = refl

any_with : (number : ℕ) (rs : List RuleOf) (r : RuleOf) → list_any (is_numbered number) (with_rule rs r) ≡ (is_numbered number r || list_any (is_numbered number) rs)
any_with number [] r = refl
any_with number (q ∷ rs) r = by (nat_lt r.number q.number) (any_with number rs r)
  where
    swapped : (a b c : Bool) → (a || (b || c)) ≡ (b || (a || c))
    swapped true true c = refl
    swapped true false c = refl
    swapped false true c = refl
    swapped false false c = refl

    by : (b : Bool) → list_any (is_numbered number) (with_rule rs r) ≡ (is_numbered number r || list_any (is_numbered number) rs)
        → list_any (is_numbered number) (cond b (r ∷ q ∷ rs) (q ∷ with_rule rs r)) ≡ (is_numbered number r || (is_numbered number q || list_any (is_numbered number) rs))
    by true later = refl
    by false later = ap (λ b. is_numbered number q || b) later ∙ swapped (is_numbered number q) (is_numbered number r) (list_any (is_numbered number) rs)

any_of_two : {A : Type 0} (p : A → Bool) (a : Bool) (x : A) (xs : List A) → list_any p (cond a (x ∷ xs) xs) ≡ cond a (p x || list_any p xs) (list_any p xs)
any_of_two p true x xs = refl
any_of_two p false x xs = refl

any_left : {A : Type 0} (key : A → ℕ) (k n : ℕ) (xs : List A) → list_any (λ x. key x == k) (filter (λ x. not (key x == n)) xs) ≡ (not (k == n) && list_any (λ x. key x == k) xs)
any_left key k n [] = none (not (k == n))
  where
    none : (b : Bool) → false ≡ (b && false)
    none true = refl
    none false = refl
any_left {A} key k n (x ∷ xs) =
    any_of_two (λ y. key y == k) (not (key x == n)) x (filter (λ y. not (key y == n)) xs)
    ∙ by (key x == n) (key x == k) (k == n) (one_key (key x) k n) (other_key (key x) k n) (any_left key k n xs)
  where
    one_key : (a k n : ℕ) → (a == n) ≡ true → (a == k) ≡ (k == n)
    one_key a k n same = grind arith

    other_key : (a k n : ℕ) → (a == n) ≡ false → (a == k) ≡ true → (k == n) ≡ false
    other_key a k n differ same = grind arith

    rest : List A
    rest = filter (λ y. not (key y == n)) xs

    any : Bool
    any = list_any (λ y. key y == k) xs

    by : (a b c : Bool) → (a ≡ true → b ≡ c) → (a ≡ false → b ≡ true → c ≡ false) → list_any (λ y. key y == k) rest ≡ (not c && any)
        → (cond (not a) (b || list_any (λ y. key y == k) rest) (list_any (λ y. key y == k) rest)) ≡ (not c && (b || any))
    by true b true one other later = later
    by true true false one other later = absurd (cc (one refl))
    by true false false one other later = later
    by false true true one other later = absurd (cc (other refl refl))
    by false true false one other later = refl
    by false false c one other later = later

-- ---- what was told

pub told_nothing : (failed : Bool) (rules : List RuleOf) (elements : List Element) (memory : WorkingMemory) (numbers : List ℕ)
    → failed ≡ false → rules ≡ [] → elements ≡ [] → memory ≡ record { elements = []; limit = 1000; last = 0 } → numbers ≡ [] → AreTold failed rules elements memory numbers
told_nothing failed rules elements memory numbers works no_rules none start no_numbers = record {
  works = works;
  elements_are = none ∙ sym (ap (λ (m : WorkingMemory). m.elements) start);
  lawful = subst IsLawful (sym start) (record { rising = tt; given = tt; distinct = tt; few = omega arith });
  numbers_are = λ n. ap (list_any (is_numbered n)) no_rules ∙ sym (ap (list_any (λ m. m == n)) no_numbers);
}

module _ (failed after : Bool) (rules more : List RuleOf) (elements others : List Element) (old new : WorkingMemory) (numbers : List ℕ) where
  pub told_new : (e : Element) (t : Triple) (of_state : Bool) (tag : ℕ) → AreTold failed rules elements old numbers → AddsNew old new t of_state tag → IsLawful new
      → e ≡ element_for tag t of_state → after ≡ false → more ≡ rules → others ≡ with_element elements e → AreTold after more others new numbers
  told_new e t of_state tag told adds lawful is works same come = record {
    works = works;
    elements_are = come ∙ ap₂ with_element told.elements_are (is ∙ ap (λ n. element_for n t of_state) adds.tag_is)
        ∙ with_last old.last old.elements (element_for (old.last + 1) t of_state) told.lawful.given (omega arith) ∙ sym (ap (λ (m : WorkingMemory). m.elements) adds.added);
    lawful = lawful;
    numbers_are = λ n. ap (list_any (is_numbered n)) same ∙ told.numbers_are n;
  }

  pub told_gone : (tag : ℕ) → AreTold failed rules elements old numbers → new ≡ record old { elements = without_tag tag old.elements } → IsLawful new → after ≡ false → more ≡ rules
      → others ≡ without_tag tag elements → AreTold after more others new numbers
  told_gone tag told goes lawful works same gone = record {
    works = works;
    elements_are = gone ∙ ap (without_tag tag) told.elements_are ∙ sym (ap (λ (m : WorkingMemory). m.elements) goes);
    lawful = lawful;
    numbers_are = λ n. ap (list_any (is_numbered n)) same ∙ told.numbers_are n;
  }

module _ (failed after : Bool) (rules more : List RuleOf) (elements others : List Element) (memory : WorkingMemory) (numbers longer : List ℕ) where
  pub told_rule : (r : RuleOf) → AreTold failed rules elements memory numbers → after ≡ false → others ≡ elements → more ≡ with_rule rules r → longer ≡ numbers ++ r.number ∷ []
      → AreTold after more others memory longer
  told_rule r told works same come push = record {
    works = works;
    elements_are = same ∙ told.elements_are;
    lawful = told.lawful;
    numbers_are = λ n. ap (list_any (is_numbered n)) come ∙ any_with n rules r ∙ ap (λ b. is_numbered n r || b) (told.numbers_are n)
        ∙ or_swapped (is_numbered n r) (list_any (λ m. m == n) numbers) ∙ ap (λ b. list_any (λ m. m == n) numbers || b) (sym (last (is_numbered n r)))
        ∙ sym (ap (list_any (λ m. m == n)) push ∙ list_any-append (λ m. m == n) numbers (r.number ∷ []));
  }
    where
      last : (b : Bool) → (b || false) ≡ b
      last true = refl
      last false = refl

  pub told_excised : (number : ℕ) → AreTold failed rules elements memory numbers → after ≡ failed → (failed ≡ false → others ≡ elements) → (failed ≡ false → more ≡ without_rule rules number)
      → longer ≡ filter (λ n. not (n == number)) numbers → AreTold after more others memory longer
  told_excised number told works same gone left = record {
    works = works ∙ told.works;
    elements_are = same told.works ∙ told.elements_are;
    lawful = told.lawful;
    numbers_are = λ n. ap (list_any (is_numbered n)) (gone told.works) ∙ any_left (λ (r : RuleOf). r.number) n number rules
        ∙ ap (λ b. not (n == number) && b) (told.numbers_are n) ∙ sym (ap (list_any (λ m. m == n)) left ∙ any_left (λ m. m) n number numbers);
  }
