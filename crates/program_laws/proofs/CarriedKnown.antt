-- The symbols that an explanation takes over from its firings are known.
use Rattle.std.proofs.Common.{◌≡◌, refl, sym, ◌∙◌, ap, subst, ℕ, Bool, true, false, cond, inl, inr, List, [], ◌∷◌, ◌++◌, map, flat_map, Option, Some, None}
use Rattle.soar_sym.specs.Words.{IsKnown, Texts}
use Rattle.soar_sym.specs.declared.symbol.Sym.{Sym}
use Rattle.soar_rule.specs.declared.cond.Atom.{Atom}
use Rattle.soar_rule.specs.declared.cond.Atom.TheVariants.{Const, Var}
use Rattle.soar_rule.specs.declared.cond.Relation.{Relation}
use Rattle.soar_rule.specs.declared.cond.Test.{Test}
use Rattle.soar_rule.specs.declared.cond.Test.TheVariants.{OneOf, Plain, Rel}
use Rattle.soar_rule.specs.Conditions.{all_of, Condition, condition_and, Conditions, conjunctive, negated, no_more, positive}
use Rattle.soar_rule.specs.Renaming.{action_with, condition_with, conditions_with, test_with}
use Rattle.soar_rule.specs.Symbols.{constants_of, constants_of_action, constants_of_atom, constants_of_condition, constants_of_conditions, constants_of_field, constants_of_pattern, constants_of_test}
use Rattle.soar_rule.specs.Variables.{bound_variables}
use Rattle.soar_wm.specs.declared.element.Element.{Element}
use Rattle.defs_match.specs.Testing.{Bindings, symbol_at, symbol_of}
use Rattle.defs_soar.specs.Candidate.{action_of, conditions_of, with_variables}
use Rattle.defs_soar.specs.CarriedTests.{Carried, carried_by, carried_tests, is_carried, is_of_symbols, tests_in, tests_of_conditions, tests_of_firing, tests_of_pattern}
use Rattle.defs_soar.specs.ChainIdentifiers.{firings_of}
use Rattle.defs_soar.specs.Dependencies.{symbols_of_wish}
use Rattle.defs_soar.specs.History.{ChainOf, FiringOf}
use Rattle.defs_soar.specs.Laws.{IsIn}
use Rattle.defs_soar.specs.Negations.{bindings_in, negations_taken_over}
use Rattle.defs_soar.specs.Ungrounded.{symbols_of_carried, symbols_of_element}
use Rattle.defs_soar.specs.Uses.{elements_matched}
use Rattle.defs_soar.specs.Architecture.{nil_word}
use Rattle.learning_laws.proofs.BindLaws.{matched_within}
use Rattle.learning_laws.proofs.FiringLaws.{from_paired}
use Rattle.learning_laws.proofs.KnownSymbols.{form_all, Holds}
use Rattle.learning_laws.proofs.Lists.{filter_within, in_append, in_flat_map, in_left, in_right}

module _ (words : Texts) where
  -- both sides of a test
  abbrev pub AreSides : Carried → Type 0
  AreSides t = IsKnown words t.field × IsKnown words t.referent

  -- ---- the tests of a firing

  module _ (bs : Bindings) (bound : (v : ℕ) (s : Sym) → symbol_of v bs ≡ Some s → IsKnown words s) where
    side_known : (a : Atom) → ((t : Sym) → IsIn t (constants_of_atom a) → IsKnown words t) → (t : Sym) → symbol_at a bs ≡ Some t → IsKnown words t
    side_known (Const s) k t q = let same : s ≡ t = cc in k t (inl same)
    side_known (Var v) k t q = bound v t q

    one_carried : (r : Relation) (s : Sym) (o : Option Sym) → IsKnown words s → ((t : Sym) → o ≡ Some t → IsKnown words t) → (y : Carried) → IsIn y (carried_by r s o) → AreSides y
    one_carried r s None p q y i = absurd i
    one_carried r s (Some t) p q y i = go (is_of_symbols r) i
      where
        go : (b : Bool) → IsIn y (cond b (record { relation = r; field = s; referent = t } ∷ []) []) → AreSides y
        go true (inl e) = subst (λ (z : Carried). AreSides z) e (p, q t refl)
        go true (inr j) = absurd j
        go false j = absurd j

    tests_known : (ts : List Test) (s : Sym) → IsKnown words s → ((t : Sym) → IsIn t (flat_map constants_of_test ts) → IsKnown words t) → (y : Carried) → IsIn y (tests_in bs s ts) → AreSides y
    tests_known [] s p k y i = absurd i
    tests_known (Plain a ∷ ts) s p k y i = tests_known ts s p (λ t j. k t (in_right t (constants_of_atom a) (flat_map constants_of_test ts) j)) y i
    tests_known (OneOf symbols ∷ ts) s p k y i = tests_known ts s p (λ t j. k t (in_right t symbols (flat_map constants_of_test ts) j)) y i
    tests_known (Rel r a ∷ ts) s p k y i =
        elim (in_append y (carried_by r s (symbol_at a bs)) (tests_in bs s ts) i) [
          | inl j ↦ one_carried r s (symbol_at a bs) p (side_known a (λ t l. k t (in_left t (constants_of_atom a) (flat_map constants_of_test ts) l))) y j
          | inr j ↦ tests_known ts s p (λ t l. k t (in_right t (constants_of_atom a) (flat_map constants_of_test ts) l)) y j
        ]

    conditions_known : (cs : Conditions) (elements : List Element) → ((e : Element) → IsIn e elements → (s : Sym) → IsIn s (symbols_of_element e) → IsKnown words s)
        → ((t : Sym) → IsIn t (constants_of_conditions cs) → IsKnown words t) → (y : Carried) → IsIn y (tests_of_conditions bs cs elements) → AreSides y
    conditions_known no_more elements h k y i = absurd i
    conditions_known (condition_and (negated p) cs) elements h k y i = conditions_known cs elements h (λ t j. k t (in_right t (constants_of_pattern p) (constants_of_conditions cs) j)) y i
    conditions_known (condition_and (conjunctive inside) cs) elements h k y i = conditions_known cs elements h (λ t j. k t (in_right t (constants_of_conditions inside) (constants_of_conditions cs) j)) y i
    conditions_known (condition_and (positive p) cs) [] h k y i = absurd i
    conditions_known (condition_and (positive p) cs) (e ∷ elements) h k y i =
        elim (in_append y (tests_of_pattern bs p e) (tests_of_conditions bs cs elements) i) [
          | inl j ↦ elim (in_append y (tests_in bs e.id p.id.tests) (tests_in bs e.attr p.attr.tests ++ tests_in bs e.value p.value.tests) j) [
            | inl l ↦ tests_known p.id.tests e.id (here e.id (inl refl)) (λ t n. own t (in_left t (constants_of_field p.id) (constants_of_field p.attr ++ constants_of_field p.value) n)) y l
            | inr l ↦ elim (in_append y (tests_in bs e.attr p.attr.tests) (tests_in bs e.value p.value.tests) l) [
              | inl n ↦ tests_known p.attr.tests e.attr (here e.attr (inr (inl refl))) (λ t o. rest t (in_left t (constants_of_field p.attr) (constants_of_field p.value) o)) y n
              | inr n ↦ tests_known p.value.tests e.value (here e.value (inr (inr (inl refl)))) (λ t o. rest t (in_right t (constants_of_field p.attr) (constants_of_field p.value) o)) y n
            ]
          ]
          | inr j ↦ conditions_known cs elements (λ f l. h f (inr l)) (λ t l. k t (in_right t (constants_of_pattern p) (constants_of_conditions cs) l)) y j
        ]
      where
        here : (s : Sym) → IsIn s (symbols_of_element e) → IsKnown words s
        here s l = h e (inl refl) s l

        own : (t : Sym) → IsIn t (constants_of_pattern p) → IsKnown words t
        own t l = k t (in_left t (constants_of_pattern p) (constants_of_conditions cs) l)

        rest : (t : Sym) → IsIn t (constants_of_field p.attr ++ constants_of_field p.value) → IsKnown words t
        rest t l = own t (in_right t (constants_of_field p.id) (constants_of_field p.attr ++ constants_of_field p.value) l)

  -- ---- the tests and negations of an explanation

  module _ (c : ChainOf) (depth : ℕ) (firings : (f : FiringOf) → IsIn f (firings_of c) → Holds (IsKnown words) f) where
    carried_known : (t : Carried) → IsIn t (carried_tests c depth) → AreSides t
    unfolding carried_tests
    carried_known t i =
        let among = (filter_within (is_carried c depth) (flat_map tests_of_firing (firings_of c)) t i).0 in
        let found = in_flat_map tests_of_firing t (firings_of c) among in
        of_firing found.0 (firings found.0 found.1) t found.2
      where
        of_firing : (f : FiringOf) → Holds (IsKnown words) f → (t : Carried) → IsIn t (tests_of_firing f) → AreSides t
        of_firing f h t j =
            conditions_known (bindings_in f)
            (λ v s q. h.own s (in_left s f.instance.binds (constants_of f.rule.production) (from_paired (bound_variables f.rule.production.conditions) f.instance.binds v s q))) f.rule.production.conditions
            (elements_matched (map (λ u. u.element) f.used) f.instance.tags) (λ e l. h.used e (matched_within (map (λ u. u.element) f.used) f.instance.tags e l))
            (λ s l. h.own s (in_right s f.instance.binds (constants_of f.rule.production) (in_left s (constants_of_conditions f.rule.production.conditions) (flat_map constants_of_action f.rule.production.actions) l))) t j

    pub sides_known : (s : Sym) → IsIn s (flat_map symbols_of_carried (carried_tests c depth)) → IsKnown words s
    sides_known s i = let t = in_flat_map symbols_of_carried s (carried_tests c depth) i in side t.0 (carried_known t.0 t.1) t.2
      where
        side : (t : Carried) → AreSides t → IsIn s (symbols_of_carried t) → IsKnown words s
        side t h (inl q) = subst (IsKnown words) q h.0
        side t h (inr (inl q)) = subst (IsKnown words) q h.1
        side t h (inr (inr j)) = absurd j

    -- negations as they stand in a rule in which identifiers stay
    abbrev F : Atom → Atom
    F = with_variables false []

    atom_same : (a : Atom) → constants_of_atom (F a) ≡ constants_of_atom a
    atom_same (Const s) = refl
    atom_same (Var v) = refl

    test_same : (t : Test) → constants_of_test (test_with F t) ≡ constants_of_test t
    test_same (Plain a) = atom_same a
    test_same (Rel r a) = atom_same a
    test_same (OneOf symbols) = refl

    tests_same : (ts : List Test) → flat_map constants_of_test (map (test_with F) ts) ≡ flat_map constants_of_test ts
    tests_same [] = refl
    tests_same (t ∷ ts) = λ i. test_same t i ++ tests_same ts i

    mutual
      condition_same : (d : Condition) → constants_of_condition (condition_with F d) ≡ constants_of_condition d
      condition_same (positive p) = λ i. tests_same p.id.tests i ++ (tests_same p.attr.tests i ++ tests_same p.value.tests i)
      condition_same (negated p) = λ i. tests_same p.id.tests i ++ (tests_same p.attr.tests i ++ tests_same p.value.tests i)
      condition_same (conjunctive cs) = conditions_same cs

      conditions_same : (cs : Conditions) → constants_of_conditions (conditions_with F cs) ≡ constants_of_conditions cs
      conditions_same no_more = refl
      conditions_same (condition_and d cs) = λ i. condition_same d i ++ conditions_same cs i

    listed_same : (ds : List Condition) → constants_of_conditions (all_of ds) ≡ flat_map constants_of_condition ds
    listed_same [] = refl
    listed_same (d ∷ ds) = ap (λ l. constants_of_condition d ++ l) (listed_same ds)

    pub negations_known : ((s : Sym) → IsIn s (flat_map symbols_of_wish c.results) → IsKnown words s) → IsKnown words nil_word
        → (s : Sym) → IsIn s (flat_map constants_of_condition (negations_taken_over c depth)) → IsKnown words s
    negations_known results nil s i =
        let ds = negations_taken_over c depth in
        let moved = conditions_with F (conditions_of c depth []) in
        let there : IsIn s (constants_of_conditions moved) = subst (IsIn s) (sym (conditions_same (all_of ds) ∙ listed_same ds)) i in
        form_all (IsKnown words) c depth firings false [] [] (λ e j. absurd j) results nil s
        (in_left s (constants_of_conditions moved) (flat_map constants_of_action (map (λ w. action_with F (action_of w)) c.results)) there)
