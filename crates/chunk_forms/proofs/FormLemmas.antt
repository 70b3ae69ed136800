-- A form has a name for each variable that stands in it, and is the form that is defined.
use Rattle.std.proofs.Common.{◌≡◌, ℕ, suc, Bool, true, pos, None, List, [], ◌∷◌, ◌++◌, length, map, flat_map, refl, sym, ap, ◌∙◌}
use Rattle.std.specs.List.{list_all}
use Rattle.std.proofs.lemmas.List.Folds.{list_all-append}
use Rattle.soar_sym.specs.declared.symbol.Sym.TheVariants.{Int}
use Rattle.soar_rule.specs.declared.cond.Cond.{Cond}
use Rattle.soar_rule.specs.declared.action.Action.{Action}
use Rattle.soar_rule.specs.declared.production.Kind.{Kind}
use Rattle.soar_rule.specs.declared.production.Support.TheVariants.{Unset}
use Rattle.soar_rule.specs.Below.{conds_below, actions_below}
use Rattle.soar_rule.specs.Conditions.{Conditions, conditions}
use Rattle.soar_rule.specs.Productions.{ActionOf, action_seen}
use Rattle.soar_rule.specs.Renaming.{conditions_with, action_with}
use Rattle.soar_rule.specs.Variables.{variables_of_conditions, variables_of_action}
use Rattle.soar_rule.proofs.BelowLemmas.{all_below, conds_are_below, actions_are_below}
use Rattle.soar_rule.proofs.NumberingLemmas.{both}
use Rattle.defs_soar.specs.declared.preference.Wish.{Wish}
use Rattle.defs_soar.specs.Candidate.{Form, action_of, form_of, with_variables}
use Rattle.defs_soar.specs.History.{ChainOf}
use Rattle.defs_soar.specs.Variablized.{Variablized, each_variablized_once, names_from, variablized_in_conditions, variablized_in_wish}
use Rattle.chunk_forms.proofs.BelowLemmas as below
use Rattle.chunk_forms.proofs.OrderLemmas.{each_has_number, has_number}

as_many_names : (before order : List Variablized) → length (names_from before order) ≡ length order
as_many_names before [] = refl
as_many_names before (s ∷ order) = ap suc (as_many_names (before ++ s ∷ []) order)

abbrev pub met_in : Bool → Conditions → List Wish → List Variablized
met_in general cs ws = variablized_in_conditions general cs ++ flat_map (variablized_in_wish general) ws

module _ (general : Bool) (cs : Conditions) (ws : List Wish) (order : List Variablized) (is : order ≡ each_variablized_once [] (met_in general cs ws)) where
  met : (list_all (has_number order) (variablized_in_conditions general cs) ≡ true) × (list_all (has_number order) (flat_map (variablized_in_wish general) ws) ≡ true)
  met = both (list_all (has_number order) (variablized_in_conditions general cs)) (list_all (has_number order) (flat_map (variablized_in_wish general) ws))
      (sym (list_all-append (has_number order) (variablized_in_conditions general cs) (flat_map (variablized_in_wish general) ws))
      ∙ each_has_number order (met_in general cs ws) is)

  pub conds_closed : (names : List (List ℕ)) (conds : List Cond) → names ≡ names_from [] order → conditions conds ≡ conditions_with (with_variables general order) cs
      → conds_below (length names) conds ≡ true
  conds_closed names conds named copied =
      ap (λ n. conds_below n conds) (ap length named ∙ as_many_names [] order) ∙ sym (conds_are_below (length order) conds)
      ∙ ap (λ ds. all_below (length order) (variables_of_conditions ds)) copied ∙ below.conditions_below general order cs ∙ met.0

  pub actions_closed : (names : List (List ℕ)) (actions : List Action) → names ≡ names_from [] order
      → map action_seen actions ≡ map (λ w. action_with (with_variables general order) (action_of w)) ws → actions_below (length names) actions ≡ true
  actions_closed names actions named made =
      ap (λ n. actions_below n actions) (ap length named ∙ as_many_names [] order) ∙ sym (actions_are_below (length order) actions)
      ∙ ap (λ xs. all_below (length order) (flat_map variables_of_action xs)) made ∙ below.actions_below general order ws met.1

abbrev form_made : Kind → Conditions → List ActionOf → List (List ℕ) → Form
form_made k cs actions names = record {
  production = record { name = Int (pos 0); doc = None; kind = k; support = Unset; vars = []; conditions = cs; actions = actions };
  names = names;
}

pub form_is : (general : Bool) (k : Kind) (c : ChainOf) (cs got : Conditions) (ws : List Wish) (order : List Variablized) (actions : List ActionOf) (names : List (List ℕ))
    → c.results ≡ ws → order ≡ each_variablized_once [] (met_in general cs ws) → got ≡ conditions_with (with_variables general order) cs
    → actions ≡ map (λ w. action_with (with_variables general order) (action_of w)) ws → names ≡ names_from [] order
    → form_made k got actions names ≡ form_of general k c cs
form_is general k c cs got ws order actions names same is copied made named =
    ap (λ ds. form_made k ds actions names) copied
    ∙ ap (λ xs. form_made k (conditions_with (with_variables general order) cs) xs names) made
    ∙ ap (form_made k (conditions_with (with_variables general order) cs) (map (λ w. action_with (with_variables general order) (action_of w)) ws)) named
    ∙ ap (λ o. form_made k (conditions_with (with_variables general o) cs) (map (λ w. action_with (with_variables general o) (action_of w)) ws) (names_from [] o)) is
    ∙ ap (λ (vs : List Wish). let o = each_variablized_once [] (met_in general cs vs) in
    form_made k (conditions_with (with_variables general o) cs) (map (λ w. action_with (with_variables general o) (action_of w)) vs) (names_from [] o)) (sym same)
