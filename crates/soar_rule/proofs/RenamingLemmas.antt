-- Variables of conditions and actions whose atoms were replaced.
use Rattle.std.proofs.Common.{◌≡◌, ℕ, List, [], ◌∷◌, ◌++◌, map, flat_map, refl, sym, ap₂, ◌∙◌}
use Rattle.std.proofs.lemmas.List.{map-append}
use Rattle.soar_rule.specs.declared.cond.Atom.{Atom}
use Rattle.soar_rule.specs.declared.cond.Test.{Test}
use Rattle.soar_rule.specs.declared.cond.Test.TheVariants.{Plain, Rel, OneOf}
use Rattle.soar_rule.specs.declared.cond.Field.{Field}
use Rattle.soar_rule.specs.declared.cond.Pattern.{Pattern}
use Rattle.soar_rule.specs.Conditions.{Condition, positive, negated, conjunctive, Conditions, no_more, condition_and}
use Rattle.soar_rule.specs.Productions.{ValueOf, atom_value, call_value, ValuesOf, no_values, value_and, PreferenceOf, accepts, rejects, requires_it, prohibits, is_best, is_worst, is_indifferent, is_better_than, is_worse_than, is_indifferent_to, ActionOf, makes, writes, halts}
use Rattle.soar_rule.specs.Renaming.{test_with, field_with, pattern_with, condition_with, conditions_with, value_with, values_with, preference_with, action_with}
use Rattle.soar_rule.specs.Variables.{variables_of_atom, variables_of_test, variables_of_field, variables_of_pattern, variables_of_condition, variables_of_conditions, variables_of_value, variables_of_values, referent_value, of_referent, variables_of_action}

mapped_both : (number : ℕ → ℕ) (xs ys vs ws : List ℕ) → xs ≡ map number vs → ys ≡ map number ws → xs ++ ys ≡ map number (vs ++ ws)
mapped_both number xs ys vs ws p q = ap₂ (λ a b. a ++ b) p q ∙ sym (map-append number vs ws)

mapped_each : {A B : Type 0} (number : ℕ → ℕ) (f : B → List ℕ) (g : A → List ℕ) (h : A → B) → ((x : A) → f (h x) ≡ map number (g x)) → (xs : List A)
    → flat_map f (map h xs) ≡ map number (flat_map g xs)
mapped_each number f g h each [] = refl
mapped_each number f g h each (x ∷ xs) = mapped_both number (f (h x)) (flat_map f (map h xs)) (g x) (flat_map g xs) (each x) (mapped_each number f g h each xs)

-- each atom's variable gets another number
module _ (f : Atom → Atom) (number : ℕ → ℕ) (atoms : (a : Atom) → variables_of_atom (f a) ≡ map number (variables_of_atom a)) where
  variables_with_test : (t : Test) → variables_of_test (test_with f t) ≡ map number (variables_of_test t)
  variables_with_test (Plain a) = mapped_both number (variables_of_atom (f a)) [] (variables_of_atom a) [] (atoms a) refl
  variables_with_test (Rel r a) = atoms a
  variables_with_test (OneOf symbols) = refl

  variables_with_field : (field : Field) → variables_of_field (field_with f field) ≡ map number (variables_of_field field)
  variables_with_field field = mapped_each number variables_of_test variables_of_test (test_with f) variables_with_test field.tests

  variables_with_pattern : (p : Pattern) → variables_of_pattern (pattern_with f p) ≡ map number (variables_of_pattern p)
  variables_with_pattern p =
      mapped_both number _ _ (variables_of_field p.id) (variables_of_field p.attr ++ variables_of_field p.value) (variables_with_field p.id)
      (mapped_both number _ _ (variables_of_field p.attr) (variables_of_field p.value) (variables_with_field p.attr) (variables_with_field p.value))

  mutual
    variables_with_condition : (c : Condition) → variables_of_condition (condition_with f c) ≡ map number (variables_of_condition c)
    variables_with_condition (positive p) = variables_with_pattern p
    variables_with_condition (negated p) = variables_with_pattern p
    variables_with_condition (conjunctive inside) = variables_with_conditions inside

    pub variables_with_conditions : (cs : Conditions) → variables_of_conditions (conditions_with f cs) ≡ map number (variables_of_conditions cs)
    variables_with_conditions no_more = refl
    variables_with_conditions (condition_and c cs) =
        mapped_both number _ _ (variables_of_condition c) (variables_of_conditions cs) (variables_with_condition c) (variables_with_conditions cs)

  mutual
    variables_with_value : (v : ValueOf) → variables_of_value (value_with f v) ≡ map number (variables_of_value v)
    variables_with_value (atom_value a) = atoms a
    variables_with_value (call_value function arguments) = variables_with_values arguments

    variables_with_values : (vs : ValuesOf) → variables_of_values (values_with f vs) ≡ map number (variables_of_values vs)
    variables_with_values no_values = refl
    variables_with_values (value_and v vs) = mapped_both number _ _ (variables_of_value v) (variables_of_values vs) (variables_with_value v) (variables_with_values vs)

  variables_with_preference : (p : PreferenceOf)
      → of_referent variables_of_value (referent_value (preference_with f p)) ≡ map number (of_referent variables_of_value (referent_value p))
  variables_with_preference accepts = refl
  variables_with_preference rejects = refl
  variables_with_preference requires_it = refl
  variables_with_preference prohibits = refl
  variables_with_preference is_best = refl
  variables_with_preference is_worst = refl
  variables_with_preference is_indifferent = refl
  variables_with_preference (is_better_than v) = variables_with_value v
  variables_with_preference (is_worse_than v) = variables_with_value v
  variables_with_preference (is_indifferent_to v) = variables_with_value v

  variables_with_action : (a : ActionOf) → variables_of_action (action_with f a) ≡ map number (variables_of_action a)
  variables_with_action (makes id attr value preference) =
      mapped_both number _ _ (variables_of_atom id) _ (atoms id)
      (mapped_both number _ _ (variables_of_value attr) _ (variables_with_value attr)
      (mapped_both number _ _ (variables_of_value value) _ (variables_with_value value) (variables_with_preference preference)))
  variables_with_action (writes written) = mapped_each number variables_of_value variables_of_value (value_with f) variables_with_value written
  variables_with_action halts = refl

  pub variables_with_actions : (actions : List ActionOf) → flat_map variables_of_action (map (action_with f) actions) ≡ map number (flat_map variables_of_action actions)
  variables_with_actions actions = mapped_each number variables_of_action variables_of_action (action_with f) variables_with_action actions
