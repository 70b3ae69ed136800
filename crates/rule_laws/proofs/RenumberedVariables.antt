-- The variables of renumbered conditions and values are the renumbered variables.
use Rattle.std.specs.Prelude.{map, flat_map}
use Rattle.std.proofs.Common.{◌≡◌, ℕ, List, [], ◌∷◌, ◌++◌, refl, sym, ◌∙◌, ap₂}
use Rattle.std.proofs.lemmas.List.{map-append}
use Rattle.soar_rule.specs.declared.cond.Atom.{Atom}
use Rattle.soar_rule.specs.declared.cond.Atom.TheVariants.{Const, Var}
use Rattle.soar_rule.specs.declared.cond.Test.{Test}
use Rattle.soar_rule.specs.declared.cond.Test.TheVariants.{Plain, Rel, OneOf}
use Rattle.soar_rule.specs.declared.cond.Field.{Field}
use Rattle.soar_rule.specs.declared.cond.Pattern.{Pattern}
use Rattle.soar_rule.specs.Alike.{variable_with}
use Rattle.soar_rule.specs.Checking.{called_variables, lone_variable}
use Rattle.soar_rule.specs.Conditions.{Condition, positive, negated, conjunctive, Conditions, no_more, condition_and}
use Rattle.soar_rule.specs.Productions.{ValueOf, atom_value, call_value, ValuesOf, no_values, value_and, PreferenceOf, accepts, rejects, requires_it, prohibits, is_best, is_worst, is_indifferent, is_better_than, is_worse_than, is_indifferent_to, ActionOf, makes, writes, halts}
use Rattle.soar_rule.specs.Renaming.{test_with, field_with, pattern_with, condition_with, conditions_with, value_with, values_with, preference_with, action_with}
use Rattle.soar_rule.specs.Variables.{variables_of_atom, plain_in_test, related_in_test, plain_in, related_in, variables_of_test, variables_of_field, plain_of_pattern, variables_of_pattern, variables_of_condition, variables_of_conditions, bound_by, plain_outside, variables_of_value, variables_of_values, referent_value, of_referent, variables_of_action}

module _ (g : ℕ → ℕ) where
  -- two lists that are renumbered, one behind the other
  pub joined : (xs ys vs ws : List ℕ) → xs ≡ map g vs → ys ≡ map g ws → xs ++ ys ≡ map g (vs ++ ws)
  joined xs ys vs ws e f = ap₂ (λ (a b : List ℕ). a ++ b) e f ∙ sym (map-append g vs ws)

  pub atom_variables : (a : Atom) → variables_of_atom (variable_with g a) ≡ map g (variables_of_atom a)
  atom_variables (Const s) = refl
  atom_variables (Var v) = refl

  -- ---- fields

  plain_of_test : (t : Test) → plain_in_test (test_with (variable_with g) t) ≡ map g (plain_in_test t)
  plain_of_test (Plain a) = atom_variables a
  plain_of_test (Rel r a) = refl
  plain_of_test (OneOf symbols) = refl

  related_of_test : (t : Test) → related_in_test (test_with (variable_with g) t) ≡ map g (related_in_test t)
  related_of_test (Plain a) = refl
  related_of_test (Rel r a) = atom_variables a
  related_of_test (OneOf symbols) = refl

  -- what each test has, where a renumbered test has the renumbered variables
  of_tests : (of : Test → List ℕ) → ((t : Test) → of (test_with (variable_with g) t) ≡ map g (of t)) → (ts : List Test)
      → flat_map of (map (test_with (variable_with g)) ts) ≡ map g (flat_map of ts)
  of_tests of each [] = refl
  of_tests of each (t ∷ ts) = joined (of (test_with (variable_with g) t)) (flat_map of (map (test_with (variable_with g)) ts)) (of t) (flat_map of ts) (each t) (of_tests of each ts)

  pub plain_variables : (f : Field) → plain_in (field_with (variable_with g) f) ≡ map g (plain_in f)
  plain_variables f = of_tests plain_in_test plain_of_test f.tests

  pub related_variables : (f : Field) → related_in (field_with (variable_with g) f) ≡ map g (related_in f)
  related_variables f = of_tests related_in_test related_of_test f.tests

  test_variables : (t : Test) → variables_of_test (test_with (variable_with g) t) ≡ map g (variables_of_test t)
  test_variables t =
      joined (plain_in_test (test_with (variable_with g) t)) (related_in_test (test_with (variable_with g) t)) (plain_in_test t) (related_in_test t) (plain_of_test t) (related_of_test t)

  field_variables : (f : Field) → variables_of_field (field_with (variable_with g) f) ≡ map g (variables_of_field f)
  field_variables f = of_tests variables_of_test test_variables f.tests

  -- ---- conditions

  -- what each field of a pattern has
  of_fields : (of : Field → List ℕ) → ((f : Field) → of (field_with (variable_with g) f) ≡ map g (of f)) → (p : Pattern)
      → of (field_with (variable_with g) p.id) ++ (of (field_with (variable_with g) p.attr) ++ of (field_with (variable_with g) p.value)) ≡ map g (of p.id ++ (of p.attr ++ of p.value))
  of_fields of each p =
      joined (of (field_with (variable_with g) p.id)) (of (field_with (variable_with g) p.attr) ++ of (field_with (variable_with g) p.value)) (of p.id) (of p.attr ++ of p.value) (each p.id)
      (joined (of (field_with (variable_with g) p.attr)) (of (field_with (variable_with g) p.value)) (of p.attr) (of p.value) (each p.attr) (each p.value))

  plain_pattern : (p : Pattern) → plain_of_pattern (pattern_with (variable_with g) p) ≡ map g (plain_of_pattern p)
  plain_pattern p = of_fields plain_in plain_variables p

  pub pattern_variables : (p : Pattern) → variables_of_pattern (pattern_with (variable_with g) p) ≡ map g (variables_of_pattern p)
  pattern_variables p = of_fields variables_of_field field_variables p

  mutual
    condition_variables : (c : Condition) → variables_of_condition (condition_with (variable_with g) c) ≡ map g (variables_of_condition c)
    condition_variables (positive p) = pattern_variables p
    condition_variables (negated p) = pattern_variables p
    condition_variables (conjunctive inside) = conditions_variables inside

    pub conditions_variables : (cs : Conditions) → variables_of_conditions (conditions_with (variable_with g) cs) ≡ map g (variables_of_conditions cs)
    conditions_variables no_more = refl
    conditions_variables (condition_and c cs) =
        joined (variables_of_condition (condition_with (variable_with g) c)) (variables_of_conditions (conditions_with (variable_with g) cs)) (variables_of_condition c) (variables_of_conditions cs)
        (condition_variables c) (conditions_variables cs)

  pub bound_variables : (c : Condition) → bound_by (condition_with (variable_with g) c) ≡ map g (bound_by c)
  bound_variables (positive p) = plain_pattern p
  bound_variables (negated p) = refl
  bound_variables (conjunctive inside) = refl

  pub outside_variables : (cs : Conditions) → plain_outside (conditions_with (variable_with g) cs) ≡ map g (plain_outside cs)
  outside_variables no_more = refl
  outside_variables (condition_and c cs) =
      joined (bound_by (condition_with (variable_with g) c)) (plain_outside (conditions_with (variable_with g) cs)) (bound_by c) (plain_outside cs) (bound_variables c) (outside_variables cs)

  -- ---- values

  mutual
    pub value_variables : (v : ValueOf) → variables_of_value (value_with (variable_with g) v) ≡ map g (variables_of_value v)
    value_variables (atom_value a) = atom_variables a
    value_variables (call_value function vs) = values_variables vs

    pub values_variables : (vs : ValuesOf) → variables_of_values (values_with (variable_with g) vs) ≡ map g (variables_of_values vs)
    values_variables no_values = refl
    values_variables (value_and v vs) =
        joined (variables_of_value (value_with (variable_with g) v)) (variables_of_values (values_with (variable_with g) vs)) (variables_of_value v) (variables_of_values vs) (value_variables v) (values_variables vs)

  pub called_again : (v : ValueOf) → called_variables (value_with (variable_with g) v) ≡ map g (called_variables v)
  called_again (atom_value a) = refl
  called_again (call_value function vs) = values_variables vs

  pub lone_again : (v : ValueOf) → lone_variable (value_with (variable_with g) v) ≡ map g (lone_variable v)
  lone_again (atom_value a) = atom_variables a
  lone_again (call_value function vs) = refl

  pub written_variables : (written : List ValueOf) → flat_map variables_of_value (map (value_with (variable_with g)) written) ≡ map g (flat_map variables_of_value written)
  written_variables [] = refl
  written_variables (v ∷ written) =
      joined (variables_of_value (value_with (variable_with g) v)) (flat_map variables_of_value (map (value_with (variable_with g)) written)) (variables_of_value v) (flat_map variables_of_value written)
      (value_variables v) (written_variables written)

  -- what the referent has, where a renumbered value has the renumbered variables
  pub referent_variables : (of : ValueOf → List ℕ) → ((v : ValueOf) → of (value_with (variable_with g) v) ≡ map g (of v)) → (p : PreferenceOf)
      → of_referent of (referent_value (preference_with (variable_with g) p)) ≡ map g (of_referent of (referent_value p))
  referent_variables of each accepts = refl
  referent_variables of each rejects = refl
  referent_variables of each requires_it = refl
  referent_variables of each prohibits = refl
  referent_variables of each is_best = refl
  referent_variables of each is_worst = refl
  referent_variables of each is_indifferent = refl
  referent_variables of each (is_better_than v) = each v
  referent_variables of each (is_worse_than v) = each v
  referent_variables of each (is_indifferent_to v) = each v

  -- ---- actions

  action_variables : (a : ActionOf) → variables_of_action (action_with (variable_with g) a) ≡ map g (variables_of_action a)
  action_variables (makes id attr value p) =
      let attrs : List ℕ = variables_of_value attr in
      let values : List ℕ = variables_of_value value in
      let referents : List ℕ = of_referent variables_of_value (referent_value p) in
      let other_attrs : List ℕ = variables_of_value (value_with (variable_with g) attr) in
      let other_values : List ℕ = variables_of_value (value_with (variable_with g) value) in
      let other_referents : List ℕ = of_referent variables_of_value (referent_value (preference_with (variable_with g) p)) in
      joined (variables_of_atom (variable_with g id)) (other_attrs ++ (other_values ++ other_referents)) (variables_of_atom id) (attrs ++ (values ++ referents)) (atom_variables id)
      (joined other_attrs (other_values ++ other_referents) attrs (values ++ referents) (value_variables attr)
      (joined other_values other_referents values referents (value_variables value) (referent_variables variables_of_value value_variables p)))
  action_variables (writes written) = written_variables written
  action_variables halts = refl

  pub actions_variables : (actions : List ActionOf) → flat_map variables_of_action (map (action_with (variable_with g)) actions) ≡ map g (flat_map variables_of_action actions)
  actions_variables [] = refl
  actions_variables (a ∷ actions) =
      joined (variables_of_action (action_with (variable_with g) a)) (flat_map variables_of_action (map (action_with (variable_with g)) actions)) (variables_of_action a) (flat_map variables_of_action actions)
      (action_variables a) (actions_variables actions)
