-- Conditions with which a production begins are numbered by themselves in its canonical form.
use Rattle.std.specs.Prelude.{flat_map}
use Rattle.std.proofs.Common.{◌≡◌, refl, sym, ◌∙◌, ap, true, ℕ, List, [], ◌++◌, append_assoc}
use Rattle.soar_rule.specs.declared.cond.Atom.{Atom}
use Rattle.soar_rule.specs.Canonical.{canonical, in_order_of_occurrence, place_among, renumbered}
use Rattle.soar_rule.specs.Conditions.{Conditions, no_more, condition_and}
use Rattle.soar_rule.specs.Productions.{ActionOf}
use Rattle.soar_rule.specs.Renaming.{condition_with, conditions_with}
use Rattle.soar_rule.specs.Variables.{is_among, with_each, variables_of_condition, variables_of_conditions, variables_of_action}
use Rattle.soar_rule.proofs.OccurrenceLemmas.{each_of_both}
use Rattle.defs_match.specs.Laws.{followed_by}
use Rattle.rule_laws.proofs.AgreeingNumbers.{conditions_agree}
use Rattle.rule_laws.proofs.OccurrenceLaws.{each_among, each_behind}
use Rattle.rule_laws.proofs.OccurrencePlaces.{place_front}
use Rattle.net_laws.specs.Laws.{FrontsAreNumbered}
use Rattle.net_laws.proofs.FormLaws.{conditions_by_places}

followed_with : (f : Atom → Atom) (cs ds : Conditions) → conditions_with f (followed_by cs ds) ≡ followed_by (conditions_with f cs) (conditions_with f ds)
followed_with f no_more ds = refl
followed_with f (condition_and c cs) ds = ap (condition_and (condition_with f c)) (followed_with f cs ds)

followed_variables : (cs ds : Conditions) → variables_of_conditions (followed_by cs ds) ≡ variables_of_conditions cs ++ variables_of_conditions ds
followed_variables no_more ds = refl
followed_variables (condition_and c cs) ds =
    ap (λ (l : List ℕ). variables_of_condition c ++ l) (followed_variables cs ds) ∙ sym (append_assoc (variables_of_condition c) (variables_of_conditions cs) (variables_of_conditions ds))

-- the order of the whole begins with the order of the front
order_begins : (front behind : Conditions) (actions : List ActionOf)
    → (rest : List ℕ) × (in_order_of_occurrence (followed_by front behind) actions ≡ with_each [] (variables_of_conditions front) ++ rest)
order_begins front behind actions =
    let vs : List ℕ = variables_of_conditions front in
    let more : List ℕ = variables_of_conditions behind ++ flat_map variables_of_action actions in
    let found = each_behind (with_each [] vs) more in
    let whole : variables_of_conditions (followed_by front behind) ++ flat_map variables_of_action actions ≡ vs ++ more =
    ap (λ (l : List ℕ). l ++ flat_map variables_of_action actions) (followed_variables front behind) ∙ append_assoc vs (variables_of_conditions behind) (flat_map variables_of_action actions) in
    (found.0, ap (with_each []) whole ∙ each_of_both [] vs more ∙ found.1)

pub fronts_are_numbered : FrontsAreNumbered
unfolding canonical
fronts_are_numbered p front behind is =
    let vs : List ℕ = variables_of_conditions front in
    let own : List ℕ = with_each [] vs in
    let begins = order_begins front behind p.actions in
    let order : List ℕ = in_order_of_occurrence p.conditions p.actions in
    let same : order ≡ own ++ begins.0 = ap (λ cs. in_order_of_occurrence cs p.actions) is ∙ begins.1 in
    let places : (v : ℕ) → is_among vs v ≡ true → place_among (own ++ begins.0) v ≡ place_among own v = λ v e. place_front own begins.0 v (each_among [] vs v ∙ e) in (
      conditions_with (renumbered order) behind,
      ap (conditions_with (renumbered order)) is ∙ followed_with (renumbered order) front behind
          ∙ ap (λ cs. followed_by cs (conditions_with (renumbered order) behind))
          (ap (λ o. conditions_with (renumbered o) front) same ∙ conditions_by_places (own ++ begins.0) front
          ∙ conditions_agree front (place_among (own ++ begins.0)) (place_among own) places
          ∙ sym (conditions_by_places own front)),
    )
