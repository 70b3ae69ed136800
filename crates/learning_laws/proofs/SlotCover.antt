-- Each atom of a learned rule's conditions has its variable among those of the rule.
use Rattle.std.proofs.Common.{◌≡◌, refl, sym, ◌∙◌, ap, subst, ℕ, ◌+◌, true, inl, inr, ◌⊎◌, List, [], ◌∷◌, ◌++◌, flat_map}
use Rattle.soar_sym.specs.declared.symbol.Sym.{Sym}
use Rattle.soar_sym.specs.declared.symbol.Sym.TheVariants.{Ident, Word, Int}
use Rattle.soar_rule.specs.declared.cond.Atom.{Atom}
use Rattle.soar_rule.specs.declared.cond.Atom.TheVariants.{Const}
use Rattle.soar_rule.specs.declared.cond.Pattern.{Pattern}
use Rattle.soar_rule.specs.declared.cond.Test.{Test}
use Rattle.soar_rule.specs.declared.cond.Test.TheVariants.{Plain, Rel, OneOf}
use Rattle.soar_rule.specs.Conditions.{Condition, positive, negated, conjunctive, Conditions, no_more, condition_and, all_of}
use Rattle.soar_rule.specs.Symbols.{constants_of_atom, constants_of_test, constants_of_field, constants_of_pattern, constants_of_condition, constants_of_conditions}
use Rattle.soar_wm.specs.declared.element.Element.{Element}
use Rattle.defs_soar.specs.Candidate.{condition_of, conditions_from, plain_and}
use Rattle.defs_soar.specs.CarriedTests.{Placed, tests_at}
use Rattle.defs_soar.specs.Laws.{IsIn}
use Rattle.defs_soar.specs.Variablized.{Variablized, of_identifier, variablized_in_atom, variablized_in_test, variablized_in_field, variablized_in_condition, variablized_in_conditions}
use Rattle.defs_soar.specs.Values.{is_identifier}
use Rattle.learning_laws.proofs.Lists.{in_left, in_right}
use Rattle.learning_laws.proofs.Moving.{InTest, InTests, InPattern, InCondition, InConditions}
use Rattle.learning_laws.proofs.PlacedLaws.{symbols_of}

abbrev pub Among : {A : Type 0} → List A → List A → Type 0
Among xs ys = (x : _) → IsIn x xs → IsIn x ys

pub identifier_slot : (s : Sym) → is_identifier s ≡ true → IsIn (of_identifier s) (variablized_in_atom true (Const s))
identifier_slot (Ident l n) h = inl refl
identifier_slot (Word n) h = absurd (cc)
identifier_slot (Int z) h = absurd (cc)

-- ---- conditions of a list

pub slots_in : (d : Condition) (ds : List Condition) → IsIn d ds → Among (variablized_in_condition true d) (variablized_in_conditions true (all_of ds))
slots_in d [] i x j = absurd i
slots_in d (e ∷ ds) (inl q) x j = in_left x (variablized_in_condition true e) (variablized_in_conditions true (all_of ds)) (subst (λ y. IsIn x (variablized_in_condition true y)) (sym q) j)
slots_in d (e ∷ ds) (inr i) x j = in_right x (variablized_in_condition true e) (variablized_in_conditions true (all_of ds)) (slots_in d ds i x j)

pub field_slot : (s : Sym) (tests : List Test) → is_identifier s ≡ true → IsIn (of_identifier s) (variablized_in_field true (plain_and s tests))
field_slot s tests h = in_left (of_identifier s) (variablized_in_atom true (Const s)) (flat_map (variablized_in_test true) tests) (identifier_slot s h)

-- the identifiers of the grounds have variables
pub ground_slots : (placed : List Placed) (first : ℕ) (elements : List Element) (t : Sym) (more : List Condition) → IsIn t (symbols_of elements) → is_identifier t ≡ true
    → IsIn (of_identifier t) (variablized_in_conditions true (all_of (conditions_from placed first elements ++ more)))
ground_slots placed first [] t more i k = absurd i
ground_slots placed first (e ∷ elements) t more i k = go i (ground_slots placed (first + 3) elements t more)
  where
    at_id : List Variablized
    at_id = variablized_in_field true (plain_and e.id (tests_at placed first))

    here : IsIn (of_identifier t) (variablized_in_condition true (condition_of placed first e))
        → IsIn (of_identifier t) (variablized_in_conditions true (all_of (condition_of placed first e ∷ conditions_from placed (first + 3) elements ++ more)))
    here j = in_left (of_identifier t) (variablized_in_condition true (condition_of placed first e)) (variablized_in_conditions true (all_of (conditions_from placed (first + 3) elements ++ more))) j

    of : (s : Sym) → s ≡ t → (tests : List Test) → IsIn (of_identifier t) (variablized_in_field true (plain_and s tests))
    of s q tests = subst (λ x. IsIn (of_identifier x) (variablized_in_field true (plain_and s tests))) q (field_slot s tests (ap is_identifier q ∙ k))

    go : (e.id ≡ t) ⊎ IsIn t (e.attr ∷ e.value ∷ symbols_of elements) → (IsIn t (symbols_of elements) → is_identifier t ≡ true → IsIn (of_identifier t) (variablized_in_conditions true (all_of (conditions_from placed (first + 3) elements ++ more))))
        → IsIn (of_identifier t) (variablized_in_conditions true (all_of (condition_of placed first e ∷ conditions_from placed (first + 3) elements ++ more)))
    go (inl q) later =
        here (in_left (of_identifier t) (variablized_in_field true (plain_and e.id (tests_at placed first)))
        (variablized_in_field true (plain_and e.attr (tests_at placed (first + 1))) ++ variablized_in_field true (plain_and e.value (tests_at placed (first + 2)))) (of e.id q (tests_at placed first)))
    go (inr (inl q)) later =
        here (in_right (of_identifier t) (variablized_in_field true (plain_and e.id (tests_at placed first)))
        (variablized_in_field true (plain_and e.attr (tests_at placed (first + 1))) ++ variablized_in_field true (plain_and e.value (tests_at placed (first + 2))))
        (in_left (of_identifier t) (variablized_in_field true (plain_and e.attr (tests_at placed (first + 1)))) (variablized_in_field true (plain_and e.value (tests_at placed (first + 2)))) (of e.attr q (tests_at placed (first + 1)))))
    go (inr (inr (inl q))) later =
        here (in_right (of_identifier t) (variablized_in_field true (plain_and e.id (tests_at placed first)))
        (variablized_in_field true (plain_and e.attr (tests_at placed (first + 1))) ++ variablized_in_field true (plain_and e.value (tests_at placed (first + 2))))
        (in_right (of_identifier t) (variablized_in_field true (plain_and e.attr (tests_at placed (first + 1)))) (variablized_in_field true (plain_and e.value (tests_at placed (first + 2)))) (of e.value q (tests_at placed (first + 2)))))
    go (inr (inr (inr j))) later =
        in_right (of_identifier t) (variablized_in_condition true (condition_of placed first e)) (variablized_in_conditions true (all_of (conditions_from placed (first + 3) elements ++ more))) (later j k)

-- ---- atoms of a negation

module _ (variablized : List Variablized) (known : List Sym) where
  -- its slot is among these; an identifier is known
  pub record IsCovered (a : Atom) : Type 0 where
    pub slot : Among (variablized_in_atom true a) variablized
    pub symbol : (s : Sym) → IsIn s (constants_of_atom a) → is_identifier s ≡ true → IsIn s known

  abbrev pub Identifiers : List Sym → Type 0
  Identifiers symbols = (s : Sym) → IsIn s symbols → is_identifier s ≡ true → IsIn s known

  front_of : {A : Type 0} (xs ys zs : List A) → Among (xs ++ ys) zs → Among xs zs
  front_of xs ys zs h x i = h x (in_left x xs ys i)

  back_of : {A : Type 0} (xs ys zs : List A) → Among (xs ++ ys) zs → Among ys zs
  back_of xs ys zs h x i = h x (in_right x xs ys i)

  test_covered : (t : Test) → Among (variablized_in_test true t) variablized → Identifiers (constants_of_test t) → InTest IsCovered t
  test_covered (Plain a) h k = record { slot = h; symbol = k }
  test_covered (Rel r a) h k = record { slot = h; symbol = k }
  test_covered (OneOf symbols) h k = tt

  tests_covered : (ts : List Test) → Among (flat_map (variablized_in_test true) ts) variablized → Identifiers (flat_map constants_of_test ts) → InTests IsCovered ts
  tests_covered [] h k = tt
  tests_covered (t ∷ ts) h k = (
    test_covered t (front_of (variablized_in_test true t) (flat_map (variablized_in_test true) ts) variablized h) (λ s i. k s (in_left s (constants_of_test t) (flat_map constants_of_test ts) i)),
    tests_covered ts (back_of (variablized_in_test true t) (flat_map (variablized_in_test true) ts) variablized h) (λ s i. k s (in_right s (constants_of_test t) (flat_map constants_of_test ts) i)),
  )

  pattern_covered : (p : Pattern) → Among (variablized_in_field true p.id ++ (variablized_in_field true p.attr ++ variablized_in_field true p.value)) variablized → Identifiers (constants_of_pattern p) → InPattern IsCovered p
  pattern_covered p h k =
      let back = back_of (variablized_in_field true p.id) (variablized_in_field true p.attr ++ variablized_in_field true p.value) variablized h in
      let more : Identifiers (constants_of_field p.attr ++ constants_of_field p.value) = λ s i. k s (in_right s (constants_of_field p.id) (constants_of_field p.attr ++ constants_of_field p.value) i) in (
        tests_covered p.id.tests (front_of (variablized_in_field true p.id) (variablized_in_field true p.attr ++ variablized_in_field true p.value) variablized h)
            (λ s i. k s (in_left s (constants_of_field p.id) (constants_of_field p.attr ++ constants_of_field p.value) i)),
        tests_covered p.attr.tests (front_of (variablized_in_field true p.attr) (variablized_in_field true p.value) variablized back) (λ s i. more s (in_left s (constants_of_field p.attr) (constants_of_field p.value) i)),
        tests_covered p.value.tests (back_of (variablized_in_field true p.attr) (variablized_in_field true p.value) variablized back) (λ s i. more s (in_right s (constants_of_field p.attr) (constants_of_field p.value) i)),
      )

  mutual
    pub condition_covered : (c : Condition) → Among (variablized_in_condition true c) variablized → Identifiers (constants_of_condition c) → InCondition IsCovered c
    condition_covered (positive p) h k = pattern_covered p h k
    condition_covered (negated p) h k = pattern_covered p h k
    condition_covered (conjunctive cs) h k = conditions_covered cs h k

    pub conditions_covered : (cs : Conditions) → Among (variablized_in_conditions true cs) variablized → Identifiers (constants_of_conditions cs) → InConditions IsCovered cs
    conditions_covered no_more h k = tt
    conditions_covered (condition_and c cs) h k = (
      condition_covered c (front_of (variablized_in_condition true c) (variablized_in_conditions true cs) variablized h) (λ s i. k s (in_left s (constants_of_condition c) (constants_of_conditions cs) i)),
      conditions_covered cs (back_of (variablized_in_condition true c) (variablized_in_conditions true cs) variablized h) (λ s i. k s (in_right s (constants_of_condition c) (constants_of_conditions cs) i)),
    )
