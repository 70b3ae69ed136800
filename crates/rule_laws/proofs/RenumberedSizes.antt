-- Renumbered conditions and actions have the same marks, sizes, depths and preferences.
use Rattle.std.specs.Prelude.{map, nat_lt}
use Rattle.std.specs.List.{list_any}
use Rattle.std.proofs.Common.{◌≡◌, ℕ, suc, ◌+◌, ◌&&◌, ◌||◌, not, max, List, [], ◌∷◌, refl, ap, ap₂}
use Rattle.soar_rule.specs.declared.cond.Atom.TheVariants.{Const, Var}
use Rattle.soar_rule.specs.Alike.{variable_with}
use Rattle.soar_rule.specs.Checking.{has_state, is_ordinary_preference, is_ordinary_attribute, is_bad}
use Rattle.soar_rule.specs.Conditions.{Condition, positive, negated, conjunctive, Conditions, no_more, condition_and}
use Rattle.soar_rule.specs.Productions.{ValueOf, atom_value, call_value, ValuesOf, no_values, value_and, PreferenceOf, accepts, rejects, requires_it, prohibits, is_best, is_worst, is_indifferent, is_better_than, is_worse_than, is_indifferent_to, ActionOf, makes, writes, halts}
use Rattle.soar_rule.specs.Renaming.{condition_with, conditions_with, value_with, values_with, preference_with, action_with}
use Rattle.soar_rule.specs.Sizes.{size_of, size_of_all, depth_of, depth_of_all, calls_in, calls_in_all, deepest_of, calls_of_referent, calls_of}
use Rattle.soar_rule.specs.Variables.{referent_value}

module _ (g : ℕ → ℕ) where
  -- ---- conditions

  pub state_again : (cs : Conditions) → has_state (conditions_with (variable_with g) cs) ≡ has_state cs
  state_again no_more = refl
  state_again (condition_and (positive p) cs) = ap (λ b. p.state || b) (state_again cs)
  state_again (condition_and (negated p) cs) = state_again cs
  state_again (condition_and (conjunctive inside) cs) = state_again cs

  mutual
    size_again : (c : Condition) → size_of (condition_with (variable_with g) c) ≡ size_of c
    size_again (positive p) = refl
    size_again (negated p) = refl
    size_again (conjunctive inside) = ap suc (sizes_again inside)

    pub sizes_again : (cs : Conditions) → size_of_all (conditions_with (variable_with g) cs) ≡ size_of_all cs
    sizes_again no_more = refl
    sizes_again (condition_and c cs) = ap₂ ◌+◌ (size_again c) (sizes_again cs)

  mutual
    depth_again : (c : Condition) → depth_of (condition_with (variable_with g) c) ≡ depth_of c
    depth_again (positive p) = refl
    depth_again (negated p) = refl
    depth_again (conjunctive inside) = ap suc (depths_again inside)

    pub depths_again : (cs : Conditions) → depth_of_all (conditions_with (variable_with g) cs) ≡ depth_of_all cs
    depths_again no_more = refl
    depths_again (condition_and c cs) = ap₂ max (depth_again c) (depths_again cs)

  -- ---- actions

  mutual
    calls_again : (v : ValueOf) → calls_in (value_with (variable_with g) v) ≡ calls_in v
    calls_again (atom_value a) = refl
    calls_again (call_value function vs) = ap suc (all_calls_again vs)

    all_calls_again : (vs : ValuesOf) → calls_in_all (values_with (variable_with g) vs) ≡ calls_in_all vs
    all_calls_again no_values = refl
    all_calls_again (value_and v vs) = ap₂ max (calls_again v) (all_calls_again vs)

  deepest_again : (written : List ValueOf) → deepest_of (map (value_with (variable_with g)) written) ≡ deepest_of written
  deepest_again [] = refl
  deepest_again (v ∷ written) = ap₂ max (calls_again v) (deepest_again written)

  referent_calls_again : (p : PreferenceOf) → calls_of_referent (referent_value (preference_with (variable_with g) p)) ≡ calls_of_referent (referent_value p)
  referent_calls_again accepts = refl
  referent_calls_again rejects = refl
  referent_calls_again requires_it = refl
  referent_calls_again prohibits = refl
  referent_calls_again is_best = refl
  referent_calls_again is_worst = refl
  referent_calls_again is_indifferent = refl
  referent_calls_again (is_better_than v) = calls_again v
  referent_calls_again (is_worse_than v) = calls_again v
  referent_calls_again (is_indifferent_to v) = calls_again v

  action_calls_again : (a : ActionOf) → calls_of (action_with (variable_with g) a) ≡ calls_of a
  action_calls_again (makes id attr value p) = ap₂ max (calls_again attr) (ap₂ max (calls_again value) (referent_calls_again p))
  action_calls_again (writes written) = deepest_again written
  action_calls_again halts = refl

  pub deep_calls_again : (actions : List ActionOf) → list_any (λ a. nat_lt 8 (calls_of a)) (map (action_with (variable_with g)) actions) ≡ list_any (λ a. nat_lt 8 (calls_of a)) actions
  deep_calls_again [] = refl
  deep_calls_again (a ∷ actions) = ap₂ ◌||◌ (ap (nat_lt 8) (action_calls_again a)) (deep_calls_again actions)

  -- ---- preferences

  ordinary_again : (p : PreferenceOf) → is_ordinary_preference (preference_with (variable_with g) p) ≡ is_ordinary_preference p
  ordinary_again accepts = refl
  ordinary_again rejects = refl
  ordinary_again requires_it = refl
  ordinary_again prohibits = refl
  ordinary_again is_best = refl
  ordinary_again is_worst = refl
  ordinary_again is_indifferent = refl
  ordinary_again (is_better_than v) = refl
  ordinary_again (is_worse_than v) = refl
  ordinary_again (is_indifferent_to v) = refl

  attribute_again : (v : ValueOf) → is_ordinary_attribute (value_with (variable_with g) v) ≡ is_ordinary_attribute v
  attribute_again (atom_value (Const s)) = refl
  attribute_again (atom_value (Var v)) = refl
  attribute_again (call_value function vs) = refl

  bad_again : (a : ActionOf) → is_bad (action_with (variable_with g) a) ≡ is_bad a
  bad_again (makes id attr value p) = ap₂ (λ b c. b && not c) (attribute_again attr) (ordinary_again p)
  bad_again (writes written) = refl
  bad_again halts = refl

  pub any_bad_again : (actions : List ActionOf) → list_any is_bad (map (action_with (variable_with g)) actions) ≡ list_any is_bad actions
  any_bad_again [] = refl
  any_bad_again (a ∷ actions) = ap₂ ◌||◌ (bad_again a) (any_bad_again actions)
