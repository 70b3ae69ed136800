-- What is in match order stays so under other names and numbers of variables.
use Rattle.std.specs.Prelude.{map, flat_map, nat_lt, not, if◌then◌else◌, option_map}
use Rattle.std.proofs.Common.{◌≡◌, ℕ, ◌≤◌, Bool, true, false, ◌||◌, List, length, Some, None, refl, sym, ◌∙◌, ap, ap₂, arith}
use Rattle.std.proofs.lemmas.Bool.Decides.{nat_tests}
use Rattle.soar_rule.specs.Alike.{variables_in, variable_with}
use Rattle.soar_rule.specs.Checking.{no_state, too_many, too_deep, bad_preference, told, fault_if, fault_of_number, fault_of}
use Rattle.soar_rule.specs.Conditions.{Conditions, all_of}
use Rattle.soar_rule.specs.Laws.{RenumberedStays}
use Rattle.soar_rule.specs.MatchOrder.{Taken, taken_in_order}
use Rattle.soar_rule.specs.Productions.{ActionOf, ProductionOf}
use Rattle.soar_rule.specs.Renaming.{conditions_with, action_with}
use Rattle.soar_rule.specs.Sizes.{size_of_all}
use Rattle.soar_rule.specs.Variables.{variables_of_conditions, variables_of_action}
use Rattle.rule_laws.proofs.AgreeingNumbers.{Agree, agree_front, agree_back, conditions_agree, actions_agree}
use Rattle.rule_laws.proofs.CheckedParts.{fault_in, NoFault, each_none, all_none, checked_as, stays_so}
use Rattle.rule_laws.proofs.RenumberedFaults.{fault_with, stop_again, actions_again}
use Rattle.rule_laws.proofs.RenumberedOrder.{taken_with, all_again, order_again}
use Rattle.rule_laws.proofs.RenumberedSizes.{state_again, sizes_again, depths_again, deep_calls_again, any_bad_again}
use Rattle.rule_laws.proofs.WideNumbers.{wide, wide_same, wide_apart}

-- fewer variables are not too many either
fewer_variables : (size count fewer : ℕ) → fewer ≤ count → fault_of_number size count ≡ None → fault_of_number size fewer ≡ None
fewer_variables size count fewer less e = by (nat_lt 1000 size) (nat_lt 2000 count) (nat_lt 2000 fewer) refl refl e
  where
    by : (large many some : Bool) → nat_lt 2000 count ≡ many → nat_lt 2000 fewer ≡ some
        → (if large then Some (too_many (told size)) else if many then Some (too_many (told count)) else None) ≡ None
        → (if large then Some (too_many (told size)) else if some then Some (too_many (told fewer)) else None) ≡ None
    by true many some f h k = k
    by false true some f h k = absurd (cc)
    by false false true f h k = absurd (grind (arith, nat_tests))
    by false false false f h k = refl

module _ (g : ℕ → ℕ) (apart : (v w : ℕ) → g v ≡ g w → v ≡ w) where
  -- renumbered, with no more variables, they have no fault either
  no_fault_again : (cs : Conditions) (actions : List ActionOf) (count fewer : ℕ) (taken : Taken) → fewer ≤ count → NoFault cs actions count taken
      → NoFault (conditions_with (variable_with g) cs) (map (action_with (variable_with g)) actions) fewer (taken_with g apart taken)
  no_fault_again cs actions count fewer taken less h =
      record {
        state = ap (λ b. fault_if (not b) no_state) (state_again g cs) ∙ h.state;
        stop = stop_again g apart cs taken ∙ ap (option_map (fault_with g apart)) h.stop;
        lack = actions_again g apart taken.bound actions ∙ ap (option_map (fault_with g apart)) h.lack;
        number = ap (λ n. fault_of_number n fewer) (sizes_again g cs) ∙ fewer_variables (size_of_all cs) count fewer less h.number;
        depth = ap₂ (λ n b. fault_if (nat_lt 8 n || b) too_deep) (depths_again g cs) (deep_calls_again g actions) ∙ h.depth;
        preference = ap (λ b. fault_if b bad_preference) (any_bad_again g actions) ∙ h.preference;
      }

  -- the check of the renumbered production
  checked_again : (p q : ProductionOf) → length q.vars ≤ length p.vars → q.conditions ≡ conditions_with (variable_with g) p.conditions → q.actions ≡ map (action_with (variable_with g)) p.actions
      → fault_of p (taken_in_order p.conditions) ≡ None → all_of (taken_in_order p.conditions).order ≡ p.conditions
      → (fault_of q (taken_in_order q.conditions) ≡ None) × (all_of (taken_in_order q.conditions).order ≡ q.conditions)
  checked_again p q fewer conditions actions none same =
      let taken = ap taken_in_order conditions ∙ order_again g apart p.conditions in (
        (λ i. fault_in (conditions i) (actions i) (length q.vars) (taken i))
            ∙ all_none (conditions_with (variable_with g) p.conditions) (map (action_with (variable_with g)) p.actions) (length q.vars) (taken_with g apart (taken_in_order p.conditions))
            (no_fault_again p.conditions p.actions (length p.vars) (length q.vars) (taken_in_order p.conditions) fewer (each_none p.conditions p.actions (length p.vars) (taken_in_order p.conditions) none)),
        ap (λ t. all_of t.order) taken ∙ all_again g apart (taken_in_order p.conditions).order ∙ ap (conditions_with (variable_with g)) same ∙ sym conditions,
      )

pub renumbered_stays : RenumberedStays
renumbered_stays p q alike fewer e =
    let g = wide alike.number (variables_in p) in
    let agree : Agree alike.number g (variables_in p) = λ v among. sym (wide_same alike.number (variables_in p) v among) in
    let here = agree_front alike.number g (variables_of_conditions p.conditions) (flat_map variables_of_action p.actions) agree in
    let there = agree_back alike.number g (variables_of_conditions p.conditions) (flat_map variables_of_action p.actions) agree in
    let checked = checked_as p p e in
    let again = checked_again g (wide_apart alike.number (variables_in p) alike.apart) p q fewer (alike.conditions ∙ conditions_agree p.conditions alike.number g here)
    (alike.actions ∙ actions_agree alike.number g p.actions there) checked.0 (sym (ap (λ r. r.conditions) checked.1)) in
    stays_so q again.0 again.1
