-- No identifier is left as a constant in a learned rule, but in the lists of its negations.
use Rattle.std.proofs.Common.{◌≡◌, refl, sym, ◌∙◌, ap, subst, ℕ, ◌+◌, Bool, true, false, inl, inr, List, [], ◌∷◌, ◌++◌, map, flat_map, Option, Some, None}
use Rattle.soar_sym.specs.declared.symbol.Sym.{Sym}
use Rattle.soar_rule.specs.declared.cond.Atom.{Atom}
use Rattle.soar_rule.specs.declared.cond.Atom.TheVariants.{Const, Var}
use Rattle.soar_rule.specs.declared.cond.Pattern.{Pattern}
use Rattle.soar_rule.specs.declared.cond.Test.{Test}
use Rattle.soar_rule.specs.declared.cond.Test.TheVariants.{Plain, Rel, OneOf}
use Rattle.soar_rule.specs.Conditions.{Condition, positive, negated, conjunctive, Conditions, no_more, condition_and, all_of}
use Rattle.soar_rule.specs.Renaming.{test_with, pattern_with, condition_with, conditions_with, action_with, preference_with, value_with}
use Rattle.soar_rule.specs.Symbols.{constants_of_atom, constants_of_test, constants_of_field, constants_of_pattern, constants_of_condition, constants_of_conditions, constants_of_action, constants_of_value, constants_of_referent}
use Rattle.soar_rule.specs.Variables.{referent_value}
use Rattle.soar_wm.specs.declared.element.Element.{Element}
use Rattle.defs_soar.specs.declared.preference.PrefKind.{PrefKind}
use Rattle.defs_soar.specs.declared.preference.PrefKind.TheVariants as kind
use Rattle.defs_soar.specs.declared.preference.Wish.{Wish}
use Rattle.defs_soar.specs.Architecture.{nil_word}
use Rattle.defs_soar.specs.Candidate.{action_of, conditions_from, preference_of, referent_symbol, with_variables}
use Rattle.defs_soar.specs.CarriedTests.{Placed}
use Rattle.defs_soar.specs.Laws.{IsIn}
use Rattle.defs_soar.specs.Variablized.{Variablized}
use Rattle.defs_soar.specs.Values.{is_identifier}
use Rattle.learning_laws.specs.Listed.{listed_of, listed_of_all, listed_of_pattern, listed_of_test, listed_of_tests}
use Rattle.learning_laws.proofs.FieldLaws.{as_test}
use Rattle.learning_laws.proofs.Lists.{in_append, in_left, in_right}
use Rattle.learning_laws.proofs.MatchLaws.{tests_here}
use Rattle.learning_laws.proofs.SlotLaws.{as_constant, as_identifier}

module _ (variablized : List Variablized) where
  abbrev F : Atom → Atom
  F = with_variables true variablized

  no_identifier : (a : Atom) (t : Sym) → IsIn t (constants_of_atom (F a)) → is_identifier t ≡ true → ⊥
  no_identifier (Var v) t i h = i
  no_identifier (Const s) t i h = go (is_identifier s) refl
    where
      one : IsIn t (s ∷ []) → is_identifier s ≡ false → ⊥
      one (inl e) q = let k = sym q ∙ ap is_identifier e ∙ h in absurd (cc)
      one (inr j) q = j

      go : (b : Bool) → is_identifier s ≡ b → ⊥
      go true q = subst (λ a. IsIn t (constants_of_atom a)) (as_identifier variablized s q) i
      go false q = one (subst (λ a. IsIn t (constants_of_atom a)) (as_constant variablized s q) i) q

  abbrev Ids : List Sym → List Sym → Type 0
  Ids xs ys = (t : Sym) → IsIn t xs → is_identifier t ≡ true → IsIn t ys

  ids_append : (xs ys us vs : List Sym) → Ids xs us → Ids ys vs → Ids (xs ++ ys) (us ++ vs)
  ids_append xs ys us vs h k t i q = elim (in_append t xs ys i) [ inl j ↦ in_left t us vs (h t j q) | inr j ↦ in_right t us vs (k t j q) ]

  test_listed : (t : Test) → Ids (constants_of_test (test_with F t)) (listed_of_test t)
  test_listed (Plain a) s i h = absurd (no_identifier a s i h)
  test_listed (Rel r a) s i h = absurd (no_identifier a s i h)
  test_listed (OneOf symbols) s i h = i

  tests_listed : (ts : List Test) → Ids (flat_map constants_of_test (map (test_with F) ts)) (listed_of_tests ts)
  tests_listed [] = λ s i h. i
  tests_listed (t ∷ ts) = ids_append (constants_of_test (test_with F t)) (flat_map constants_of_test (map (test_with F) ts)) (listed_of_test t) (listed_of_tests ts) (test_listed t) (tests_listed ts)

  pattern_listed : (p : Pattern) → Ids (constants_of_pattern (pattern_with F p)) (listed_of_pattern p)
  pattern_listed p =
      ids_append (constants_of_field (pattern_with F p).id) (constants_of_field (pattern_with F p).attr ++ constants_of_field (pattern_with F p).value) (listed_of_tests p.id.tests)
      (listed_of_tests p.attr.tests ++ listed_of_tests p.value.tests) (tests_listed p.id.tests)
      (ids_append (constants_of_field (pattern_with F p).attr) (constants_of_field (pattern_with F p).value) (listed_of_tests p.attr.tests) (listed_of_tests p.value.tests) (tests_listed p.attr.tests) (tests_listed p.value.tests))

  mutual
    condition_listed : (c : Condition) → Ids (constants_of_condition (condition_with F c)) (listed_of c)
    condition_listed (positive p) = pattern_listed p
    condition_listed (negated p) = pattern_listed p
    condition_listed (conjunctive cs) = conditions_listed cs

    pub conditions_listed : (cs : Conditions) → Ids (constants_of_conditions (conditions_with F cs)) (listed_of_all cs)
    conditions_listed no_more = λ t i h. i
    conditions_listed (condition_and c cs) =
        ids_append (constants_of_condition (condition_with F c)) (constants_of_conditions (conditions_with F cs)) (listed_of c) (listed_of_all cs) (condition_listed c) (conditions_listed cs)

  -- ---- what is listed is a constant

  two_in : (xs ys us vs : List Sym) → ((t : Sym) → IsIn t xs → IsIn t us) → ((t : Sym) → IsIn t ys → IsIn t vs) → (t : Sym) → IsIn t (xs ++ ys) → IsIn t (us ++ vs)
  two_in xs ys us vs h k t i = elim (in_append t xs ys i) [ inl j ↦ in_left t us vs (h t j) | inr j ↦ in_right t us vs (k t j) ]

  test_in : (t : Test) (s : Sym) → IsIn s (listed_of_test t) → IsIn s (constants_of_test t)
  test_in (Plain a) s i = absurd i
  test_in (Rel r a) s i = absurd i
  test_in (OneOf symbols) s i = i

  tests_in : (ts : List Test) (s : Sym) → IsIn s (listed_of_tests ts) → IsIn s (flat_map constants_of_test ts)
  tests_in [] s i = i
  tests_in (t ∷ ts) s i = two_in (listed_of_test t) (listed_of_tests ts) (constants_of_test t) (flat_map constants_of_test ts) (test_in t) (tests_in ts) s i

  pattern_in : (p : Pattern) (s : Sym) → IsIn s (listed_of_pattern p) → IsIn s (constants_of_pattern p)
  pattern_in p s i =
      two_in (listed_of_tests p.id.tests) (listed_of_tests p.attr.tests ++ listed_of_tests p.value.tests) (constants_of_field p.id) (constants_of_field p.attr ++ constants_of_field p.value) (tests_in p.id.tests)
      (two_in (listed_of_tests p.attr.tests) (listed_of_tests p.value.tests) (constants_of_field p.attr) (constants_of_field p.value) (tests_in p.attr.tests) (tests_in p.value.tests)) s i

  mutual
    condition_in : (c : Condition) (s : Sym) → IsIn s (listed_of c) → IsIn s (constants_of_condition c)
    condition_in (positive p) s i = pattern_in p s i
    condition_in (negated p) s i = pattern_in p s i
    condition_in (conjunctive cs) s i = conditions_in cs s i

    conditions_in : (cs : Conditions) (s : Sym) → IsIn s (listed_of_all cs) → IsIn s (constants_of_conditions cs)
    conditions_in no_more s i = i
    conditions_in (condition_and c cs) s i = two_in (listed_of c) (listed_of_all cs) (constants_of_condition c) (constants_of_conditions cs) (condition_in c) (conditions_in cs) s i

  -- ---- a learned rule

  carried_none : (ps : List Placed) → listed_of_tests (map as_test ps) ≡ []
  carried_none [] = refl
  carried_none (p ∷ ps) = carried_none ps

  pub positives_none : (placed : List Placed) (first : ℕ) (elements : List Element) (ds : List Condition) (s : Sym) → IsIn s (listed_of_all (all_of (conditions_from placed first elements ++ ds))) → IsIn s (listed_of_all (all_of ds))
  positives_none placed first [] ds s i = i
  positives_none placed first (e ∷ elements) ds s i =
      positives_none placed (first + 3) elements ds s
      (subst (λ l. IsIn s (l ++ listed_of_all (all_of (conditions_from placed (first + 3) elements ++ ds))))
      (λ j. carried_none (tests_here placed first) j ++ (carried_none (tests_here placed (first + 1)) j ++ carried_none (tests_here placed (first + 2)) j)) i)

  from_listed : (ds : List Condition) (s : Sym) → IsIn s (listed_of_all (all_of ds)) → (d : Condition) × IsIn d ds × IsIn s (constants_of_condition d)
  from_listed [] s i = absurd i
  from_listed (d ∷ ds) s i =
      elim (in_append s (listed_of d) (listed_of_all (all_of ds)) i) [
        | inl j ↦ (d, inl refl, condition_in d s j)
        | inr j ↦ let found = from_listed ds s j in (found.0, inr found.1, found.2)
      ]

  -- an identifier that is a constant in the conditions of a learned rule is one in its negations
  pub condition_constant : (placed : List Placed) (elements : List Element) (ds : List Condition) (t : Sym) → IsIn t (constants_of_conditions (conditions_with F (all_of (conditions_from placed 0 elements ++ ds)))) → is_identifier t ≡ true
      → (d : Condition) × IsIn d ds × IsIn t (constants_of_condition d)
  condition_constant placed elements ds t i h = from_listed ds t (positives_none placed 0 elements ds t (conditions_listed (all_of (conditions_from placed 0 elements ++ ds)) t i h))

  -- and none is one in its actions
  referent_none : (r : Option Sym) (t : Sym) → IsIn t (constants_of_value (value_with F (referent_symbol r))) → is_identifier t ≡ true → ⊥
  referent_none (Some s) t i h = no_identifier (Const s) t i h
  referent_none None t i h = no_identifier (Const nil_word) t i h

  preference_none : (k : PrefKind) (r : Option Sym) (t : Sym) → IsIn t (constants_of_referent (referent_value (preference_with F (preference_of k r)))) → is_identifier t ≡ true → ⊥
  preference_none kind.Better r t i h = referent_none r t i h
  preference_none kind.Worse r t i h = referent_none r t i h
  preference_none kind.Numeric r t i h = referent_none r t i h
  preference_none kind.IndifferentTo r t i h = referent_none r t i h
  preference_none kind.Accept r t i h = i
  preference_none kind.Require r t i h = i
  preference_none kind.Reject r t i h = i
  preference_none kind.Prohibit r t i h = i
  preference_none kind.Best r t i h = i
  preference_none kind.Worst r t i h = i
  preference_none kind.Indifferent r t i h = i

  pub no_action_constant : (ws : List Wish) (t : Sym) → IsIn t (flat_map constants_of_action (map (λ w. action_with F (action_of w)) ws)) → is_identifier t ≡ true → ⊥
  no_action_constant [] t i h = i
  no_action_constant (w ∷ ws) t i h =
      elim (in_append t (constants_of_action (action_with F (action_of w))) (flat_map constants_of_action (map (λ w. action_with F (action_of w)) ws)) i) [
        | inl j ↦ one j
        | inr j ↦ no_action_constant ws t j h
      ]
    where
      one : IsIn t (constants_of_action (action_with F (action_of w))) → ⊥
      one j =
          elim (in_append t (constants_of_atom (F (Const w.id))) (constants_of_atom (F (Const w.attr)) ++ (constants_of_atom (F (Const w.value)) ++ constants_of_referent (referent_value (preference_with F (preference_of w.kind w.referent))))) j) [
            | inl k ↦ no_identifier (Const w.id) t k h
            | inr k ↦ elim (in_append t (constants_of_atom (F (Const w.attr))) (constants_of_atom (F (Const w.value)) ++ constants_of_referent (referent_value (preference_with F (preference_of w.kind w.referent)))) k) [
              | inl l ↦ no_identifier (Const w.attr) t l h
              | inr l ↦ elim (in_append t (constants_of_atom (F (Const w.value))) (constants_of_referent (referent_value (preference_with F (preference_of w.kind w.referent)))) l) [
                | inl n ↦ no_identifier (Const w.value) t n h
                | inr n ↦ preference_none w.kind w.referent t n h
              ]
            ]
          ]
