-- The conditions of a learned rule are in match order as they stand.
use Rattle.std.proofs.Common.{◌≡◌, refl, sym, ◌∙◌, ap, subst, ℕ, ◌+◌, Bool, true, false, ◌||◌, cond, inl, inr, ◌⊎◌, List, [], ◌∷◌, ◌++◌, map, flat_map, Option, None, append_assoc}
use Rattle.std.proofs.lemmas.List.{append-nil}
use Rattle.std.specs.List.{list_any}
use Rattle.soar_sym.specs.declared.symbol.Sym.{Sym}
use Rattle.soar_rule.specs.declared.cond.Atom.{Atom}
use Rattle.soar_rule.specs.declared.cond.Atom.TheVariants.{Const}
use Rattle.soar_rule.specs.declared.cond.Pattern.{Pattern}
use Rattle.soar_rule.specs.declared.cond.Test.{Test}
use Rattle.soar_rule.specs.declared.cond.Test.TheVariants.{Plain}
use Rattle.soar_rule.specs.Conditions.{Condition, positive, negated, conjunctive, Conditions, no_more, condition_and, all_of}
use Rattle.soar_rule.specs.MatchOrder.{first_unknown, is_linked, is_ready, is_unlinked, missing_in, or_else, readiness, unless_missing, waits_for}
use Rattle.soar_rule.specs.Renaming.{test_with, condition_with}
use Rattle.soar_rule.specs.Variables.{is_among, variables_of_atom, plain_in_test, related_in_test, plain_in, related_in, plain_of_pattern, variables_of_pattern, variables_of_conditions, bound_by, plain_outside}
use Rattle.soar_wm.specs.declared.element.Element.{Element}
use Rattle.defs_soar.specs.Candidate.{conditions_from, with_variables}
use Rattle.defs_soar.specs.CarriedTests.{Placed}
use Rattle.defs_soar.specs.ConditionOrder.{with_place}
use Rattle.defs_soar.specs.Laws.{IsIn}
use Rattle.defs_soar.specs.Variablized.{Variablized, of_identifier}
use Rattle.defs_soar.specs.Values.{is_identifier}
use Rattle.rule_laws.proofs.PlaceLaws.{InOrder, bound_after}
use Rattle.rule_laws.proofs.StayLaws.{inside_in_order}
use Rattle.learning_laws.specs.Standing.{StandsReady, StandReady}
use Rattle.learning_laws.proofs.ConflictLaws.{IsNegation}
use Rattle.learning_laws.proofs.FieldLaws.{AllHold, as_test}
use Rattle.learning_laws.proofs.FitLaws.{place_from}
use Rattle.learning_laws.proofs.Lists.{in_append, in_left, in_right}
use Rattle.learning_laws.proofs.MatchLaws.{ElementFits, ElementsFit, pattern_for, places_with, places_after, tests_here}
use Rattle.learning_laws.proofs.Shifting.{AllIn, in_among, none_unknown, waits_not}
use Rattle.learning_laws.proofs.SlotLaws.{as_constant, as_identifier, number_of}

-- ---- conditions that stand ready are ready

abbrev pub list_of : Conditions → List Condition
list_of no_more = []
list_of (condition_and c cs) = c ∷ list_of cs

pub all_listed : (cs : Conditions) → all_of (list_of cs) ≡ cs
all_listed no_more = refl
all_listed (condition_and c cs) = ap (condition_and c) (all_listed cs)

ready_by : (waits missing : Option ℕ) (c : Condition) → waits ≡ None → missing ≡ None → unless_missing (or_else waits missing) c ≡ is_ready c
ready_by waits missing c w m = cc

conjunctive_ready : (cs : Conditions) (inside : Bool) (outside bound : List ℕ) → waits_for outside bound (variables_of_conditions cs) ≡ None → InOrder true (plain_outside cs) bound (list_of cs)
    → readiness (conjunctive cs) inside outside bound ≡ is_ready (conjunctive cs)
conjunctive_ready cs inside outside bound w o =
    subst (λ (x : Conditions). readiness (conjunctive x) inside outside bound ≡ is_ready (conjunctive x)) (all_listed cs)
    (inside_in_order (list_of cs) outside bound (subst (λ (x : Conditions). waits_for outside bound (variables_of_conditions x) ≡ None) (sym (all_listed cs)) w) inside
    (subst (λ (x : Conditions). InOrder true (plain_outside x) bound (list_of cs)) (sym (all_listed cs)) o))

mutual
  ready_inside : (c : Condition) (outside bound : List ℕ) → StandsReady outside bound c → readiness c true outside bound ≡ is_ready c
  ready_inside (positive p) outside bound h = ap (λ o. unless_missing o (positive p)) h
  ready_inside (negated p) outside bound h = ready_by (waits_for outside bound (variables_of_pattern p)) (missing_in bound p) (negated p) h.0 h.1
  ready_inside (conjunctive cs) outside bound h = conjunctive_ready cs true outside bound h.0 (all_inside cs (plain_outside cs) bound h.1)

  all_inside : (cs : Conditions) (outside bound : List ℕ) → StandReady outside bound cs → InOrder true outside bound (list_of cs)
  all_inside no_more outside bound h = tt
  all_inside (condition_and c cs) outside bound h = (ready_inside c outside bound h.0, all_inside cs outside (bound ++ bound_by c) h.1)

-- a negation is ready where all that positive conditions bind is bound
negation_ready : (c : Condition) (outside bound : List ℕ) → IsNegation c → AllIn outside bound → StandsReady [] bound c → readiness c false outside bound ≡ is_ready c
negation_ready (positive p) outside bound n a h = absurd n
negation_ready (negated p) outside bound n a h =
    ready_by (waits_for outside bound (variables_of_pattern p)) (missing_in bound p) (negated p) (waits_not outside bound (variables_of_pattern p) (λ v i j. a v j)) h.1
negation_ready (conjunctive cs) outside bound n a h =
    conjunctive_ready cs false outside bound (waits_not outside bound (variables_of_conditions cs) (λ v i j. a v j)) (all_inside cs (plain_outside cs) bound h.1)

-- ---- lists in order

pub in_order_append : (xs ys : List Condition) (outside bound : List ℕ) → InOrder false outside bound xs → InOrder false outside (bound_after bound xs) ys → InOrder false outside bound (xs ++ ys)
in_order_append [] ys outside bound h k = k
in_order_append (x ∷ xs) ys outside bound h k = (h.0, in_order_append xs ys outside (bound ++ bound_by x) h.1 k)

negations_bind_nothing : (d : Condition) → IsNegation d → bound_by d ≡ []
negations_bind_nothing (positive p) h = absurd h
negations_bind_nothing (negated p) h = refl
negations_bind_nothing (conjunctive cs) h = refl

pub negations_in_order : (ds : List Condition) (outside bound : List ℕ) → AllIn outside bound → ((d : Condition) → IsIn d ds → IsNegation d × StandsReady [] bound d) → InOrder false outside bound ds
negations_in_order [] outside bound a h = tt
negations_in_order (d ∷ ds) outside bound a h =
    let first = h d (inl refl) in
    let same : bound ++ bound_by d ≡ bound = ap (λ l. bound ++ l) (negations_bind_nothing d first.0) ∙ append-nil bound in (
      negation_ready d outside bound first.0 a first.1,
      subst (λ b. InOrder false outside b ds) (sym same) (negations_in_order ds outside bound a (λ e i. h e (inr i))),
    )

bound_more : (ds : List Condition) (bound : List ℕ) → AllIn bound (bound_after bound ds)
bound_more [] bound v i = i
bound_more (d ∷ ds) bound v i = bound_more ds (bound ++ bound_by d) v (in_left v bound (bound_by d) i)

-- what the list binds is bound after it
pub outside_bound : (ds : List Condition) (bound : List ℕ) → AllIn (plain_outside (all_of ds)) (bound_after bound ds)
outside_bound [] bound v i = absurd i
outside_bound (d ∷ ds) bound v i =
    elim (in_append v (bound_by d) (plain_outside (all_of ds)) i) [
      | inl j ↦ bound_more ds (bound ++ bound_by d) v (in_right v bound (bound_by d) j)
      | inr j ↦ outside_bound ds (bound ++ bound_by d) v j
    ]

pub after_append : (xs ys : List Condition) (bound : List ℕ) → bound_after bound (xs ++ ys) ≡ bound_after (bound_after bound xs) ys
after_append [] ys bound = refl
after_append (x ∷ xs) ys bound = after_append xs ys (bound ++ bound_by x)

pub after_negations : (ds : List Condition) (bound : List ℕ) → ((d : Condition) → IsIn d ds → IsNegation d) → bound_after bound ds ≡ bound
after_negations [] bound h = refl
after_negations (d ∷ ds) bound h =
    ap (λ b. bound_after b ds) (ap (λ l. bound ++ l) (negations_bind_nothing d (h d (inl refl))) ∙ append-nil bound) ∙ after_negations ds bound (λ e i. h e (inr i))

-- ---- positive conditions

-- the numbers of these symbols are bound
abbrev pub Numbered : List Variablized → List Sym → List ℕ → Type 0
Numbered variablized seen bound = (t : Sym) → IsIn t seen → IsIn (number_of variablized t) bound

-- and what is bound is the number of an identifier
abbrev pub NumbersOf : List Variablized → List ℕ → Type 0
NumbersOf variablized bound = (v : ℕ) → IsIn v bound → (t : Sym) × IsIn (of_identifier t) variablized × (number_of variablized t ≡ v)

-- the condition of each element is marked, or its identifier has a variable by then
abbrev pub AreLinked : List Sym → List Element → Type 0
AreLinked seen [] = Unit {0}
AreLinked seen (e ∷ elements) = ((e.of_state ≡ true) ⊎ (IsIn e.id seen × (is_identifier e.id ≡ true))) × AreLinked (places_with seen e) elements

module _ (variablized : List Variablized) (placed : List Placed) (w : List Element) where
  abbrev F : Atom → Atom
  F = with_variables true variablized

  abbrev field_for : Sym → List Placed → List Test
  field_for s tests = map (test_with F) (Plain (Const s) ∷ map as_test tests)

  no_plain : (tests : List Placed) → flat_map plain_in_test (map (test_with F) (map as_test tests)) ≡ []
  no_plain [] = refl
  no_plain (p ∷ tests) = no_plain tests

  field_plain : (s : Sym) (tests : List Placed) → flat_map plain_in_test (field_for s tests) ≡ variables_of_atom (F (Const s))
  field_plain s tests = ap (λ l. variables_of_atom (F (Const s)) ++ l) (no_plain tests) ∙ append-nil (variables_of_atom (F (Const s)))

  number_there : (s : Sym) → is_identifier s ≡ true → IsIn (number_of variablized s) (variables_of_atom (F (Const s)))
  number_there s h = subst (λ a. IsIn (number_of variablized s) (variables_of_atom a)) (sym (as_identifier variablized s h)) (inl refl)

  number_only : (s : Sym) (v : ℕ) → IsIn v (variables_of_atom (F (Const s))) → (is_identifier s ≡ true) × (number_of variablized s ≡ v)
  number_only s v i = go (is_identifier s) refl
    where
      one : IsIn v (number_of variablized s ∷ []) → number_of variablized s ≡ v
      one (inl e) = e
      one (inr j) = absurd j

      go : (b : Bool) → is_identifier s ≡ b → (is_identifier s ≡ true) × (number_of variablized s ≡ v)
      go true q = (q, one (subst (λ a. IsIn v (variables_of_atom a)) (as_identifier variablized s q) i))
      go false q = absurd (subst (λ a. IsIn v (variables_of_atom a)) (as_constant variablized s q) i)

  -- after a field the symbol's number is bound too
  numbered_more : (seen : List Sym) (bound : List ℕ) (s : Sym) (tests : List Placed) → Numbered variablized seen bound → Numbered variablized (with_place seen s) (bound ++ flat_map plain_in_test (field_for s tests))
  numbered_more seen bound s tests h t i =
      elim (place_from seen s t i) [
        | inl j ↦ in_left (number_of variablized t) bound (flat_map plain_in_test (field_for s tests)) (h t j)
        | inr j ↦ in_right (number_of variablized t) bound (flat_map plain_in_test (field_for s tests))
            (subst (λ l. IsIn (number_of variablized t) l) (sym (field_plain s tests)) (subst (λ x. IsIn (number_of variablized t) (variables_of_atom (F (Const x)))) (sym j.0) (number_there t j.1)))
      ]

  numbers_more : (bound : List ℕ) (s : Sym) (tests : List Placed) → (is_identifier s ≡ true → IsIn (of_identifier s) variablized) → NumbersOf variablized bound → NumbersOf variablized (bound ++ flat_map plain_in_test (field_for s tests))
  numbers_more bound s tests own h v i =
      elim (in_append v bound (flat_map plain_in_test (field_for s tests)) i) [
        | inl j ↦ h v j
        | inr j ↦ let k = number_only s v (subst (λ l. IsIn v l) (field_plain s tests) j) in (s, own k.0, k.1)
      ]

  -- the tests of a field relate to what is bound by then
  field_known : (seen : List Sym) (known : List ℕ) (s x : Sym) (tests : List Placed) → Numbered variablized (with_place seen s) known → AllHold (with_place seen s) s tests
      → first_unknown known (flat_map related_in_test (field_for x tests)) ≡ None
  field_known seen known s x tests h holds = none_unknown known (flat_map related_in_test (field_for x tests)) (all tests holds)
    where
      all : (ts : List Placed) → AllHold (with_place seen s) s ts → AllIn (flat_map related_in_test (map (test_with F) (map as_test ts))) known
      all [] k v i = absurd i
      all (p ∷ ts) k v i =
          elim (in_append v (variables_of_atom (F (Const p.right))) (flat_map related_in_test (map (test_with F) (map as_test ts))) i) [
            | inl j ↦ let n = number_only p.right v j in subst (λ y. IsIn y known) n.1 (h p.right ((k p (inl refl)).bound n.0))
            | inr j ↦ all ts (λ q l. k q (inr l)) v j
          ]

  none_of : {A : Type 0} (a b c : Option A) → a ≡ None → b ≡ None → c ≡ None → or_else a (or_else b c) ≡ None
  none_of a b c p q r = cc

  module _ (first : ℕ) (e : Element) (seen : List Sym) (bound : List ℕ) (fits : ElementFits variablized placed first seen e) (h : Numbered variablized seen bound) where
    abbrev p : Pattern
    p = pattern_for variablized placed w first e

    abbrev in_id : List ℕ
    in_id = bound ++ plain_in p.id

    abbrev in_attr : List ℕ
    in_attr = in_id ++ plain_in p.attr

    abbrev in_value : List ℕ
    in_value = in_attr ++ plain_in p.value

    id_numbered : Numbered variablized (with_place seen e.id) in_id
    id_numbered = numbered_more seen bound e.id (tests_here placed first) h

    attr_numbered : Numbered variablized (with_place (with_place seen e.id) e.attr) in_attr
    attr_numbered = numbered_more (with_place seen e.id) in_id e.attr (tests_here placed (first + 1)) id_numbered

    value_numbered : Numbered variablized (places_with seen e) in_value
    value_numbered = numbered_more (with_place (with_place seen e.id) e.attr) in_attr e.value (tests_here placed (first + 2)) attr_numbered

    same_bound : bound ++ plain_of_pattern p ≡ in_value
    same_bound =
        sym (append_assoc bound (plain_in p.id) (plain_in p.attr ++ plain_in p.value)) ∙ sym (append_assoc in_id (plain_in p.attr) (plain_in p.value))

    nothing_missing : missing_in bound p ≡ None
    nothing_missing =
        none_of (first_unknown in_id (related_in p.id)) (first_unknown in_attr (related_in p.attr)) (first_unknown in_value (related_in p.value))
        (field_known seen in_id e.id e.id (tests_here placed first) id_numbered fits.id.tests)
        (field_known (with_place seen e.id) in_attr e.attr e.attr (tests_here placed (first + 1)) attr_numbered fits.attr.tests)
        (field_known (with_place (with_place seen e.id) e.attr) in_value e.value e.value (tests_here placed (first + 2)) value_numbered fits.value.tests)

    linked : (e.of_state ≡ true) ⊎ (IsIn e.id seen × (is_identifier e.id ≡ true)) → is_linked bound p ≡ true
    linked (inl q) = ap (λ b. b || list_any (is_among bound) (plain_in p.id)) q
    linked (inr q) = either e.of_state (list_any (is_among bound) (plain_in p.id)) (subst (λ l. list_any (is_among bound) l ≡ true) (sym (field_plain e.id (tests_here placed first))) there)
      where
        either : (a b : Bool) → b ≡ true → (a || b) ≡ true
        either true b k = refl
        either false b k = k

        there : list_any (is_among bound) (variables_of_atom (F (Const e.id))) ≡ true
        there =
            subst (λ a. list_any (is_among bound) (variables_of_atom a) ≡ true) (sym (as_identifier variablized e.id q.1))
            (ap (λ b. b || list_any (is_among bound) []) (in_among bound (number_of variablized e.id) (h e.id q.0)))

    numbers_after : NumbersOf variablized bound → NumbersOf variablized (bound ++ plain_of_pattern p)
    numbers_after n =
        subst (NumbersOf variablized) (sym same_bound)
        (numbers_more in_attr e.value (tests_here placed (first + 2)) fits.value.slot
        (numbers_more in_id e.attr (tests_here placed (first + 1)) fits.attr.slot (numbers_more bound e.id (tests_here placed first) fits.id.slot n)))

    numbered_after : Numbered variablized (places_with seen e) (bound ++ plain_of_pattern p)
    numbered_after = subst (Numbered variablized (places_with seen e)) (sym same_bound) value_numbered

  ready_of : (linked : Bool) (missing : Option ℕ) (c : Condition) → linked ≡ true → missing ≡ None → cond (false || linked) (unless_missing missing c) is_unlinked ≡ is_ready c
  ready_of l m c p q = cc

  -- ---- all of them

  -- the positive conditions are in order, and what they bind are the numbers of the identifiers
  pub record InOrderSo (outside : List ℕ) (seen : List Sym) (bound : List ℕ) (first : ℕ) (elements : List Element) : Type 0 where
    pub in_order : InOrder false outside bound (map (condition_with F) (conditions_from placed first elements))
    pub numbered : Numbered variablized (places_after seen elements) (bound_after bound (map (condition_with F) (conditions_from placed first elements)))
    pub numbers : NumbersOf variablized (bound_after bound (map (condition_with F) (conditions_from placed first elements)))

  pub elements_in_order : (elements : List Element) (outside : List ℕ) (seen : List Sym) (bound : List ℕ) (first : ℕ) → ElementsFit variablized placed first seen elements → AreLinked seen elements
      → Numbered variablized seen bound → NumbersOf variablized bound → InOrderSo outside seen bound first elements
  elements_in_order [] outside seen bound first fits links h n = record { in_order = tt; numbered = h; numbers = n }
  elements_in_order (e ∷ elements) outside seen bound first fits links h n =
      let rest = elements_in_order elements outside (places_with seen e) (bound ++ plain_of_pattern (pattern_for variablized placed w first e)) (first + 3) fits.1 links.1
      (numbered_after first e seen bound fits.0 h) (numbers_after first e seen bound fits.0 h n) in
      record {
        in_order = (ready_of (is_linked bound (pattern_for variablized placed w first e)) (missing_in bound (pattern_for variablized placed w first e)) (positive (pattern_for variablized placed w first e)) (linked first e seen bound fits.0 h links.0) (nothing_missing first e seen bound fits.0 h), rest.in_order);
        numbered = rest.numbered;
        numbers = rest.numbers;
      }
