-- The canonical form has a name for each variable that stands in it.
use Rattle.std.proofs.Common.{◌≡◌, ℕ, suc, Bool, true, false, ◌||◌, ◌&&◌, List, [], ◌∷◌, ◌++◌, length, map, flat_map, cond, None, pos, refl, sym, ap, ap₂, ◌∙◌}
use Rattle.std.specs.List.{list_all}
use Rattle.std.proofs.lemmas.Bool.{eq-eqb}
use Rattle.std.proofs.lemmas.List.Folds.{list_all-append}
use Rattle.soar_sym.specs.declared.symbol.Sym.{Sym}
use Rattle.soar_sym.specs.declared.symbol.Sym.TheVariants.{Int}
use Rattle.soar_rule.specs.declared.cond.Atom.{Atom}
use Rattle.soar_rule.specs.declared.cond.Atom.TheVariants.{Const, Var}
use Rattle.soar_rule.specs.declared.cond.Cond.{Cond}
use Rattle.soar_rule.specs.declared.action.Action.{Action}
use Rattle.soar_rule.specs.declared.production.Kind.TheVariants.{User}
use Rattle.soar_rule.specs.declared.production.Support.{Support}
use Rattle.soar_rule.specs.Below.{conds_below, actions_below}
use Rattle.soar_rule.specs.Canonical.{canonical, in_order_of_occurrence, place_among, renumbered, numbers_from}
use Rattle.soar_rule.specs.Conditions.{Conditions, conditions}
use Rattle.soar_rule.specs.Productions.{ActionOf, ProductionOf, action_seen}
use Rattle.soar_rule.specs.Renaming.{conditions_with, action_with}
use Rattle.soar_rule.specs.Variables.{is_among, with_each, variables_of_atom, variables_of_conditions, variables_of_action}
use Rattle.soar_rule.proofs.BelowLemmas.{all_below, conds_are_below, actions_are_below}
use Rattle.soar_rule.proofs.NumberingLemmas.{among_by_place, both}
use Rattle.soar_rule.proofs.RenamingLemmas.{variables_with_conditions, variables_with_actions}
use Rattle.soar_rule.proofs.VariableLemmas.{among_joined}

pub as_many_names : (n : ℕ) (order : List ℕ) → length (numbers_from n order) ≡ length order
as_many_names n [] = refl
as_many_names n (v ∷ order) = ap suc (as_many_names (suc n) order)

-- ---- what was met

or_last : (b : Bool) → (b || true) ≡ true
or_last true = refl
or_last false = refl

-- a variable that was seen stays so
seen_stays : (seen vs : List ℕ) (v : ℕ) → is_among seen v ≡ true → is_among (with_each seen vs) v ≡ true
seen_stays seen [] v is = is
seen_stays seen (w ∷ vs) v is = by (is_among seen w) (seen_stays seen vs v is) (seen_stays (seen ++ w ∷ []) vs v (among_joined seen (w ∷ []) v ∙ ap (λ b. b || is_among (w ∷ []) v) is))
  where
    by : (b : Bool) → is_among (with_each seen vs) v ≡ true → is_among (with_each (seen ++ w ∷ []) vs) v ≡ true → is_among (with_each (cond b seen (seen ++ w ∷ [])) vs) v ≡ true
    by true old new = old
    by false old new = new

-- each of these variables is met
each_is_met : (seen vs : List ℕ) → list_all (is_among (with_each seen vs)) vs ≡ true
each_is_met seen [] = refl
each_is_met seen (w ∷ vs) = by (is_among seen w) refl (each_is_met seen vs) (each_is_met (seen ++ w ∷ []) vs)
  where
    now : is_among (seen ++ w ∷ []) w ≡ true
    now = among_joined seen (w ∷ []) w ∙ ap (λ b. is_among seen w || (b || false)) (eq-eqb w w refl) ∙ or_last (is_among seen w)

    by : (b : Bool) → is_among seen w ≡ b → list_all (is_among (with_each seen vs)) vs ≡ true → list_all (is_among (with_each (seen ++ w ∷ []) vs)) vs ≡ true
        → (is_among (with_each (cond b seen (seen ++ w ∷ [])) vs) w && list_all (is_among (with_each (cond b seen (seen ++ w ∷ [])) vs)) vs) ≡ true
    by true e old new = ap₂ (λ b c. b && c) (seen_stays seen vs w e) old
    by false e old new = ap₂ (λ b c. b && c) (seen_stays (seen ++ w ∷ []) vs w now) new

-- where each has a place, each new number is below their count
places_below : (order vs : List ℕ) → list_all (is_among order) vs ≡ true → all_below (length order) (map (place_among order) vs) ≡ true
places_below order vs met = same vs ∙ met
  where
    same : (ws : List ℕ) → all_below (length order) (map (place_among order) ws) ≡ list_all (is_among order) ws
    same [] = refl
    same (w ∷ ws) = ap₂ (λ b c. b && c) (sym (among_by_place order w)) (same ws)

-- ---- the form as a production

module _ (cs : Conditions) (actions : List ActionOf) (order : List ℕ) (is : order ≡ in_order_of_occurrence cs actions) where
  met : (list_all (is_among order) (variables_of_conditions cs) ≡ true) × (list_all (is_among order) (flat_map variables_of_action actions) ≡ true)
  met = both (list_all (is_among order) (variables_of_conditions cs)) (list_all (is_among order) (flat_map variables_of_action actions))
      (sym (list_all-append (is_among order) (variables_of_conditions cs) (flat_map variables_of_action actions))
      ∙ ap (λ seen. list_all (is_among seen) (variables_of_conditions cs ++ flat_map variables_of_action actions)) is
      ∙ each_is_met [] (variables_of_conditions cs ++ flat_map variables_of_action actions))

  atoms : (a : Atom) → variables_of_atom (renumbered order a) ≡ map (place_among order) (variables_of_atom a)
  atoms (Const s) = refl
  atoms (Var v) = refl

  pub conds_closed : (vars : List Sym) (conds : List Cond) → vars ≡ numbers_from 1 order → conditions conds ≡ conditions_with (renumbered order) cs → conds_below (length vars) conds ≡ true
  conds_closed vars conds named copied =
      ap (λ n. conds_below n conds) (ap length named ∙ as_many_names 1 order) ∙ sym (conds_are_below (length order) conds)
      ∙ ap (all_below (length order)) (ap variables_of_conditions copied ∙ variables_with_conditions (renumbered order) (place_among order) atoms cs)
      ∙ places_below order (variables_of_conditions cs) met.0

  pub actions_closed : (vars : List Sym) (copies : List Action) → vars ≡ numbers_from 1 order → map action_seen copies ≡ map (action_with (renumbered order)) actions
      → actions_below (length vars) copies ≡ true
  actions_closed vars copies named copied =
      ap (λ n. actions_below n copies) (ap length named ∙ as_many_names 1 order) ∙ sym (actions_are_below (length order) copies)
      ∙ ap (all_below (length order)) (ap (flat_map variables_of_action) copied ∙ variables_with_actions (renumbered order) (place_among order) atoms actions)
      ∙ places_below order (flat_map variables_of_action actions) met.1

abbrev form_of : Support → List Sym → Conditions → List ActionOf → ProductionOf
form_of support vars cs actions = record { name = Int (pos 0); doc = None; kind = User; support = support; vars = vars; conditions = cs; actions = actions }

pub form_is : (p : ProductionOf) (order : List ℕ) (vars : List Sym) (cs : Conditions) (actions : List ActionOf) → order ≡ in_order_of_occurrence p.conditions p.actions
    → vars ≡ numbers_from 1 order → cs ≡ conditions_with (renumbered order) p.conditions → actions ≡ map (action_with (renumbered order)) p.actions
    → form_of p.support vars cs actions ≡ canonical p
unfolding canonical
form_is p order vars cs actions is named conds_copied actions_copied =
    ap (λ xs. form_of p.support xs cs actions) named
    ∙ ap (λ ds. form_of p.support (numbers_from 1 order) ds actions) conds_copied
    ∙ ap (form_of p.support (numbers_from 1 order) (conditions_with (renumbered order) p.conditions)) actions_copied
    ∙ ap (λ xs. form_of p.support (numbers_from 1 xs) (conditions_with (renumbered xs) p.conditions) (map (action_with (renumbered xs)) p.actions)) is
