-- One canonical form exactly where productions differ in names alone.
use Rattle.std.specs.Prelude.{map, flat_map, if◌then◌else◌, pos, None}
use Rattle.std.proofs.Common.{◌≡◌, ℕ, suc, Bool, true, false, List, [], ◌∷◌, ◌++◌, length, get_or, refl, sym, ◌∙◌, ap, ap₂, arith}
use Rattle.std.proofs.lemmas.List.{map-append}
use Rattle.soar_sym.specs.declared.symbol.Sym.{Sym}
use Rattle.soar_sym.specs.declared.symbol.Sym.TheVariants.{Int}
use Rattle.soar_rule.specs.declared.cond.Atom.{Atom}
use Rattle.soar_rule.specs.declared.cond.Atom.TheVariants.{Const, Var}
use Rattle.soar_rule.specs.declared.production.Kind.TheVariants.{User}
use Rattle.soar_rule.specs.Alike.{variables_in, variable_with}
use Rattle.soar_rule.specs.Canonical.{canonical, in_order_of_occurrence, numbers_from, place_among, renumbered}
use Rattle.soar_rule.specs.Conditions.{Conditions}
use Rattle.soar_rule.specs.Laws.{AlikeAreOne, OneIsAlike}
use Rattle.soar_rule.specs.Productions.{ActionOf, ProductionOf}
use Rattle.soar_rule.specs.Renaming.{conditions_with, action_with}
use Rattle.soar_rule.specs.Variables.{is_among, with_each, variables_of_conditions, variables_of_action}
use Rattle.rule_laws.proofs.AgreeingNumbers.{Agree, agree_front, agree_back, conditions_agree, actions_agree}
use Rattle.rule_laws.proofs.ComposedNumbers.{conditions_twice, actions_twice, conditions_kept, actions_kept}
use Rattle.rule_laws.proofs.OccurrenceLaws.{each_among, none_twice}
use Rattle.rule_laws.proofs.OccurrencePlaces.{place_within, place_apart, at_its_place, place_of_it}
use Rattle.rule_laws.proofs.RenumberedLists.{same_number, among_again}
use Rattle.rule_laws.proofs.RenumberedVariables.{joined, conditions_variables, actions_variables}
use Rattle.rule_laws.proofs.WideNumbers.{wide, wide_same, wide_apart}

abbrev order_of : ProductionOf → List ℕ
order_of p = in_order_of_occurrence p.conditions p.actions

-- ---- what differs in names alone has one form

module _ (g : ℕ → ℕ) (apart : (v w : ℕ) → g v ≡ g w → v ≡ w) where
  each_again : (seen vs : List ℕ) → with_each (map g seen) (map g vs) ≡ map g (with_each seen vs)
  each_again seen [] = refl
  each_again seen (v ∷ vs) =
      ap (λ b. with_each (if b then map g seen else map g seen ++ (g v ∷ [])) (map g vs)) (among_again g apart seen v)
      ∙ by (is_among seen v) (each_again seen vs) (each_again (seen ++ (v ∷ [])) vs)
    where
      by : (b : Bool) → with_each (map g seen) (map g vs) ≡ map g (with_each seen vs) → with_each (map g (seen ++ (v ∷ []))) (map g vs) ≡ map g (with_each (seen ++ (v ∷ [])) vs)
          → with_each (if b then map g seen else map g seen ++ (g v ∷ [])) (map g vs) ≡ map g (with_each (if b then seen else seen ++ (v ∷ [])) vs)
      by true old new = old
      by false old new = ap (λ l. with_each l (map g vs)) (sym (map-append g seen (v ∷ []))) ∙ new

  place_again : (order : List ℕ) (v : ℕ) → place_among (map g order) (g v) ≡ place_among order v
  place_again [] v = refl
  place_again (w ∷ order) v = ap₂ (λ b n. if b then 0 else suc n) (same_number g apart v w) (place_again order v)

  number_again : (order : List ℕ) (a : Atom) → renumbered (map g order) (variable_with g a) ≡ renumbered order a
  number_again order (Const s) = refl
  number_again order (Var v) = ap Var (place_again order v)

  names_again : (n : ℕ) (vs : List ℕ) → numbers_from n (map g vs) ≡ numbers_from n vs
  names_again n [] = refl
  names_again n (v ∷ vs) = ap (λ (names : List Sym). Int (pos n) ∷ names) (names_again (suc n) vs)

  order_again : (cs : Conditions) (actions : List ActionOf)
      → in_order_of_occurrence (conditions_with (variable_with g) cs) (map (action_with (variable_with g)) actions) ≡ map g (in_order_of_occurrence cs actions)
  order_again cs actions =
      ap (with_each [])
      (joined g (variables_of_conditions (conditions_with (variable_with g) cs)) (flat_map variables_of_action (map (action_with (variable_with g)) actions))
      (variables_of_conditions cs) (flat_map variables_of_action actions) (conditions_variables g cs) (actions_variables g actions))
      ∙ each_again [] (variables_of_conditions cs ++ flat_map variables_of_action actions)

  form_again : (p q : ProductionOf) → q.support ≡ p.support → q.conditions ≡ conditions_with (variable_with g) p.conditions → q.actions ≡ map (action_with (variable_with g)) p.actions
      → canonical p ≡ canonical q
  unfolding canonical
  form_again p q support conditions actions =
      let order : order_of q ≡ map g (order_of p) = ap₂ in_order_of_occurrence conditions actions ∙ order_again p.conditions p.actions in
      let vars = ap (numbers_from 1) order ∙ names_again 1 (order_of p) in
      let same_conditions : conditions_with (renumbered (order_of q)) q.conditions ≡ conditions_with (renumbered (order_of p)) p.conditions =
      ap₂ (λ o cs. conditions_with (renumbered o) cs) order conditions
      ∙ conditions_twice (renumbered (map g (order_of p))) (variable_with g) (renumbered (order_of p)) (number_again (order_of p)) p.conditions in
      let same_actions : map (action_with (renumbered (order_of q))) q.actions ≡ map (action_with (renumbered (order_of p))) p.actions =
      ap₂ (λ o made. map (action_with (renumbered o)) made) order actions
      ∙ actions_twice (renumbered (map g (order_of p))) (variable_with g) (renumbered (order_of p)) (number_again (order_of p)) p.actions in
      λ i. record {
        name = Int (pos 0);
        doc = None;
        kind = User;
        support = sym support i;
        vars = sym vars i;
        conditions = sym same_conditions i;
        actions = sym same_actions i;
      }

pub alike_are_one : AlikeAreOne
alike_are_one p q alike =
    let g = wide alike.number (variables_in p) in
    let agree : Agree alike.number g (variables_in p) = λ v among. sym (wide_same alike.number (variables_in p) v among) in
    let here = agree_front alike.number g (variables_of_conditions p.conditions) (flat_map variables_of_action p.actions) agree in
    let there = agree_back alike.number g (variables_of_conditions p.conditions) (flat_map variables_of_action p.actions) agree in
    form_again g (wide_apart alike.number (variables_in p) alike.apart) p q alike.support (alike.conditions ∙ conditions_agree p.conditions alike.number g here)
    (alike.actions ∙ actions_agree alike.number g p.actions there)

-- ---- what has one form differs in names alone

counted : (n : ℕ) (vs : List ℕ) → length (numbers_from n vs) ≡ length vs
counted n [] = refl
counted n (v ∷ vs) = ap suc (counted (suc n) vs)

-- the variable at a place
abbrev variable_at : List ℕ → ℕ → ℕ
variable_at order n = get_or order n 0

-- each variable of p as that of q in its place
abbrev number_to : List ℕ → List ℕ → ℕ → ℕ
number_to from to v = variable_at to (place_among from v)

back_in_turn : (from to : List ℕ) (a : Atom) → variable_with (variable_at to) (renumbered from a) ≡ variable_with (number_to from to) a
back_in_turn from to (Const s) = refl
back_in_turn from to (Var v) = refl

atom_kept : (a : Atom) → variable_with (λ v. v) a ≡ a
atom_kept (Const s) = refl
atom_kept (Var v) = refl

-- the variables of a production stand in its order
stands : (p : ProductionOf) (v : ℕ) → is_among (variables_in p) v ≡ true → is_among (order_of p) v ≡ true
stands p v e = each_among [] (variables_in p) v ∙ e

-- back from its own places a production is as it was
own_conditions : (q : ProductionOf) → conditions_with (variable_with (variable_at (order_of q))) (conditions_with (renumbered (order_of q)) q.conditions) ≡ q.conditions
own_conditions q =
    conditions_twice (variable_with (variable_at (order_of q))) (renumbered (order_of q)) (variable_with (number_to (order_of q) (order_of q))) (back_in_turn (order_of q) (order_of q)) q.conditions
    ∙ conditions_agree q.conditions (number_to (order_of q) (order_of q)) (λ v. v)
    (agree_front (number_to (order_of q) (order_of q)) (λ v. v) (variables_of_conditions q.conditions) (flat_map variables_of_action q.actions) (λ v e. at_its_place (order_of q) v (stands q v e)))
    ∙ conditions_kept (variable_with (λ v. v)) atom_kept q.conditions

own_actions : (q : ProductionOf) → map (action_with (variable_with (variable_at (order_of q)))) (map (action_with (renumbered (order_of q))) q.actions) ≡ q.actions
own_actions q =
    actions_twice (variable_with (variable_at (order_of q))) (renumbered (order_of q)) (variable_with (number_to (order_of q) (order_of q))) (back_in_turn (order_of q) (order_of q)) q.actions
    ∙ actions_agree (number_to (order_of q) (order_of q)) (λ v. v) q.actions
    (agree_back (number_to (order_of q) (order_of q)) (λ v. v) (variables_of_conditions q.conditions) (flat_map variables_of_action q.actions) (λ v e. at_its_place (order_of q) v (stands q v e)))
    ∙ actions_kept (variable_with (λ v. v)) atom_kept q.actions

-- as many variables
as_many : (p q : ProductionOf) → canonical p ≡ canonical q → length (order_of p) ≡ length (order_of q)
unfolding canonical
as_many p q e = sym (counted 1 (order_of p)) ∙ ap (λ r. length r.vars) e ∙ counted 1 (order_of q)

kept_apart : (p q : ProductionOf) → length (order_of p) ≡ length (order_of q) → (v w : ℕ) → is_among (variables_in p) v ≡ true → is_among (variables_in p) w ≡ true
    → number_to (order_of p) (order_of q) v ≡ number_to (order_of p) (order_of q) w → v ≡ w
kept_apart p q many v w e f same =
    let from : List ℕ = order_of p in
    let to : List ℕ = order_of q in
    let none = none_twice [] (variables_in q) tt in
    let place : (u : ℕ) → is_among (variables_in p) u ≡ true → place_among to (number_to from to u) ≡ place_among from u =
    λ u h. place_of_it to (place_among from u) none (let l = place_within from u (stands p u h) in omega arith) in
    place_apart from v w (stands p v e) (stands p w f) (sym (place v e) ∙ ap (place_among to) same ∙ place w f)

pub one_is_alike : OneIsAlike
unfolding canonical
one_is_alike p q e =
    let from : List ℕ = order_of p in
    let to : List ℕ = order_of q in
    record {
      number = number_to from to;
      apart = kept_apart p q (as_many p q e);
      support = sym (ap (λ r. r.support) e);
      conditions =
          sym (own_conditions q) ∙ ap (λ r. conditions_with (variable_with (variable_at to)) r.conditions) (sym e)
          ∙ conditions_twice (variable_with (variable_at to)) (renumbered from) (variable_with (number_to from to)) (back_in_turn from to) p.conditions;
      actions =
          sym (own_actions q) ∙ ap (λ r. map (action_with (variable_with (variable_at to))) r.actions) (sym e)
          ∙ actions_twice (variable_with (variable_at to)) (renumbered from) (variable_with (number_to from to)) (back_in_turn from to) p.actions;
    }
