-- Where two variables never get one number, renumbered conditions and actions lack the same.
use Rattle.std.specs.Prelude.{map, flat_map, if◌then◌else◌, option_map}
use Rattle.std.proofs.Common.{◌≡◌, ℕ, suc, Bool, true, false, ◌&&◌, not, List, [], ◌∷◌, ◌++◌, length, Option, Some, None, refl, sym, ◌∙◌, ap, ap₂}
use Rattle.std.proofs.lemmas.List.{length-map, map-append}
use Rattle.soar_rule.specs.declared.cond.Atom.TheVariants.{Const, Var}
use Rattle.soar_rule.specs.Alike.{variable_with}
use Rattle.soar_rule.specs.Checking.{Fault, no_state, unbound, unconnected, too_many, too_deep, bad_preference, told, lack_of_linked, place_left, stop_of, called_variables, lone_variable, linked_by, linked_by_all, linked_variables, unbound_in, first_unbound, fault_of_actions}
use Rattle.soar_rule.specs.Conditions.{positive, negated, conjunctive, Conditions, no_more, condition_and}
use Rattle.soar_rule.specs.MatchOrder.{or_else, first_unknown, missing_in, is_linked, Taken, first_lack}
use Rattle.soar_rule.specs.Productions.{ActionOf, makes, writes, halts}
use Rattle.soar_rule.specs.Renaming.{conditions_with, value_with, preference_with, action_with}
use Rattle.soar_rule.specs.Repeat.{repeated}
use Rattle.soar_rule.specs.Variables.{is_among, variables_of_atom, variables_of_value, plain_outside, referent_value, of_referent}
use Rattle.rule_laws.proofs.RenumberedLists.{either_of, among_again, unknown_again}
use Rattle.rule_laws.proofs.RenumberedOrder.{repeated_again, taken_with, missing_again, linked_again, lack_again}
use Rattle.rule_laws.proofs.RenumberedVariables.{joined, atom_variables, outside_variables, value_variables, called_again, lone_again, written_variables, referent_variables}

module _ (g : ℕ → ℕ) (apart : (v w : ℕ) → g v ≡ g w → v ≡ w) where
  abbrev pub fault_with : Fault → Fault
  fault_with no_state = no_state
  fault_with (unbound v) = unbound (g v)
  fault_with (unconnected k) = unconnected k
  fault_with (too_many n) = too_many n
  fault_with too_deep = too_deep
  fault_with bad_preference = bad_preference

  unbound_again : (missing : Option ℕ) → option_map unbound (option_map g missing) ≡ option_map fault_with (option_map unbound missing)
  unbound_again None = refl
  unbound_again (Some v) = refl

  unconnected_again : (place : Option ℕ) → option_map (λ k. unconnected (told k)) place ≡ option_map fault_with (option_map (λ k. unconnected (told k)) place)
  unconnected_again None = refl
  unconnected_again (Some k) = refl

  -- ---- conditions

  lack_if : (b : Bool) (missing : Option ℕ) → (if b then option_map g missing else None) ≡ option_map g (if b then missing else None)
  lack_if true missing = refl
  lack_if false missing = refl

  linked_lack_again : (cs : Conditions) (place : ℕ) (taken : Taken) → lack_of_linked (conditions_with (variable_with g) cs) place (taken_with g apart taken) ≡ option_map g (lack_of_linked cs place taken)
  linked_lack_again no_more place taken = refl
  linked_lack_again (condition_and (positive p) cs) place taken =
      ap₂ (λ (a b : Option ℕ). or_else a b)
      (ap₂ (λ b m. if not (is_among taken.places place) && b then m else None) (linked_again g apart taken.bound p) (missing_again g apart taken.bound p)
      ∙ lack_if (not (is_among taken.places place) && is_linked taken.bound p) (missing_in taken.bound p))
      (linked_lack_again cs (suc place) taken)
      ∙ either_of g (if not (is_among taken.places place) && is_linked taken.bound p then missing_in taken.bound p else None) (lack_of_linked cs (suc place) taken)
  linked_lack_again (condition_and (negated p) cs) place taken = linked_lack_again cs (suc place) taken
  linked_lack_again (condition_and (conjunctive inside) cs) place taken = linked_lack_again cs (suc place) taken

  place_again : (cs : Conditions) (place : ℕ) (taken : Taken) → place_left (conditions_with (variable_with g) cs) place (taken_with g apart taken) ≡ place_left cs place taken
  place_again no_more place taken = refl
  place_again (condition_and (positive p) cs) place taken = ap (λ later. if is_among taken.places place then later else Some (suc place)) (place_again cs (suc place) taken)
  place_again (condition_and (negated p) cs) place taken = place_again cs (suc place) taken
  place_again (condition_and (conjunctive inside) cs) place taken = place_again cs (suc place) taken

  pub stop_again : (cs : Conditions) (taken : Taken) → stop_of (conditions_with (variable_with g) cs) (taken_with g apart taken) ≡ option_map fault_with (stop_of cs taken)
  stop_again cs taken =
      let linked : Option Fault = option_map unbound (lack_of_linked cs 0 taken) in
      let left : Option Fault = option_map (λ k. unconnected (told k)) (place_left cs 0 taken) in
      let negation : Option Fault = option_map unbound (first_lack cs false false (plain_outside cs) 0 taken) in
      let linked_too = ap (option_map unbound) (linked_lack_again cs 0 taken) ∙ unbound_again (lack_of_linked cs 0 taken) in
      let left_too = ap (option_map (λ k. unconnected (told k))) (place_again cs 0 taken) ∙ unconnected_again (place_left cs 0 taken) in
      let lack_too = ap (λ vs. first_lack (conditions_with (variable_with g) cs) false false vs 0 (taken_with g apart taken)) (outside_variables g cs)
      ∙ lack_again g apart cs false false (plain_outside cs) 0 taken in
      let negation_too = ap (option_map unbound) lack_too ∙ unbound_again (first_lack cs false false (plain_outside cs) 0 taken) in
      ap₂ (λ (a b : Option Fault). or_else a b) linked_too (ap₂ (λ (a b : Option Fault). or_else a b) left_too negation_too ∙ either_of fault_with left negation)
      ∙ either_of fault_with linked (or_else left negation)

  -- ---- what actions link

  linked_if : (b : Bool) (known more : List ℕ) → (if b then map g known ++ map g more else map g known) ≡ map g (if b then known ++ more else known)
  linked_if true known more = sym (map-append g known more)
  linked_if false known more = refl

  link_again : (known : List ℕ) (a : ActionOf) → linked_by (map g known) (action_with (variable_with g) a) ≡ map g (linked_by known a)
  link_again known (makes (Var v) attr value p) =
      let more : List ℕ = lone_variable value ++ of_referent lone_variable (referent_value p) in
      let again = joined g (lone_variable (value_with (variable_with g) value)) (of_referent lone_variable (referent_value (preference_with (variable_with g) p)))
      (lone_variable value) (of_referent lone_variable (referent_value p)) (lone_again g value) (referent_variables g lone_variable (lone_again g) p) in
      ap₂ (λ b xs. if b then map g known ++ xs else map g known) (among_again g apart known v) again ∙ linked_if (is_among known v) known more
  link_again known (makes (Const s) attr value p) = refl
  link_again known (writes written) = refl
  link_again known halts = refl

  links_again : (actions : List ActionOf) (known : List ℕ) → linked_by_all (map (action_with (variable_with g)) actions) (map g known) ≡ map g (linked_by_all actions known)
  links_again [] known = refl
  links_again (a ∷ actions) known = ap (linked_by_all (map (action_with (variable_with g)) actions)) (link_again known a) ∙ links_again actions (linked_by known a)

  all_links_again : (bound : List ℕ) (actions : List ActionOf) → linked_variables (map g bound) (map (action_with (variable_with g)) actions) ≡ map g (linked_variables bound actions)
  all_links_again bound actions =
      ap (λ n. repeated n (linked_by_all (map (action_with (variable_with g)) actions)) (map g bound)) (length-map actions (action_with (variable_with g)))
      ∙ repeated_again (length actions) (map g) (linked_by_all actions) (linked_by_all (map (action_with (variable_with g)) actions)) (links_again actions) bound

  -- ---- what actions lack

  unbound_action : (bound linked : List ℕ) (a : ActionOf) → unbound_in (map g bound) (map g linked) (action_with (variable_with g) a) ≡ option_map g (unbound_in bound linked a)
  unbound_action bound linked (makes id attr value p) =
      let behind : List ℕ = called_variables value ++ of_referent called_variables (referent_value p) in
      let behind_again = joined g (called_variables (value_with (variable_with g) value)) (of_referent called_variables (referent_value (preference_with (variable_with g) p)))
      (called_variables value) (of_referent called_variables (referent_value p)) (called_again g value) (referent_variables g called_variables (called_again g) p) in
      let all_again = joined g (variables_of_value (value_with (variable_with g) attr))
      (called_variables (value_with (variable_with g) value) ++ of_referent called_variables (referent_value (preference_with (variable_with g) p)))
      (variables_of_value attr) behind (value_variables g attr) behind_again in
      ap₂ (λ (a b : Option ℕ). or_else a b) (ap (first_unknown (map g linked)) (atom_variables g id) ∙ unknown_again g apart linked (variables_of_atom id))
      (ap (first_unknown (map g bound)) all_again ∙ unknown_again g apart bound (variables_of_value attr ++ behind))
      ∙ either_of g (first_unknown linked (variables_of_atom id)) (first_unknown bound (variables_of_value attr ++ behind))
  unbound_action bound linked (writes written) = ap (first_unknown (map g bound)) (written_variables g written) ∙ unknown_again g apart bound (flat_map variables_of_value written)
  unbound_action bound linked halts = refl

  unbound_actions : (bound linked : List ℕ) (actions : List ActionOf)
      → first_unbound (map g bound) (map g linked) (map (action_with (variable_with g)) actions) ≡ option_map g (first_unbound bound linked actions)
  unbound_actions bound linked [] = refl
  unbound_actions bound linked (a ∷ actions) =
      ap₂ (λ (a b : Option ℕ). or_else a b) (unbound_action bound linked a) (unbound_actions bound linked actions)
      ∙ either_of g (unbound_in bound linked a) (first_unbound bound linked actions)

  pub actions_again : (bound : List ℕ) (actions : List ActionOf) → fault_of_actions (map g bound) (map (action_with (variable_with g)) actions) ≡ option_map fault_with (fault_of_actions bound actions)
  actions_again bound actions =
      ap (option_map unbound)
      (ap (λ linked. first_unbound (map g bound) linked (map (action_with (variable_with g)) actions)) (all_links_again bound actions) ∙ unbound_actions bound (linked_variables bound actions) actions)
      ∙ unbound_again (first_unbound bound (linked_variables bound actions) actions)
