-- The rows of a canonical form tell the instances of its production.
use Rattle.std.specs.Prelude.{map, flat_map}
use Rattle.std.proofs.Common.{◌≡◌, refl, sym, ◌∙◌, ap, true, ℕ, List, [], ◌∷◌}
use Rattle.soar_rule.specs.declared.cond.Atom.{Atom}
use Rattle.soar_rule.specs.declared.cond.Atom.TheVariants.{Const, Var}
use Rattle.soar_rule.specs.Alike.{IsApart, variables_in, variable_with}
use Rattle.soar_rule.specs.Canonical.{canonical, in_order_of_occurrence, place_among, renumbered}
use Rattle.soar_rule.specs.Conditions.{Conditions}
use Rattle.soar_rule.specs.Productions.{ProductionOf}
use Rattle.soar_rule.specs.Renaming.{conditions_with}
use Rattle.soar_rule.specs.Variables.{is_among, variables_of_conditions, variables_of_action}
use Rattle.soar_wm.specs.declared.element.Element.{Element}
use Rattle.defs_match.specs.Conflict.{instance_of}
use Rattle.defs_match.specs.Rows.{rows, empty_row}
use Rattle.rule_laws.proofs.AgreeingNumbers.{among_front, conditions_agree}
use Rattle.rule_laws.proofs.OccurrenceLaws.{each_among}
use Rattle.rule_laws.proofs.OccurrencePlaces.{place_apart}
use Rattle.rule_laws.proofs.WideNumbers.{wide, wide_same, wide_apart}
use Rattle.net_laws.specs.Laws.{CanonicalFormsMatch}
use Rattle.net_laws.proofs.RenamedRows.{from_again, instances_kept}

by_places : (order : List ℕ) (a : Atom) → renumbered order a ≡ variable_with (place_among order) a
by_places order (Const s) = refl
by_places order (Var v) = refl

pub conditions_by_places : (order : List ℕ) (cs : Conditions) → conditions_with (renumbered order) cs ≡ conditions_with (variable_with (place_among order)) cs
conditions_by_places order cs = ap (λ f. conditions_with f cs) (λ i a. by_places order a i)

-- where the numbers keep the variables of conditions apart
renumbered_instances : (number : ℕ → ℕ) (cs : Conditions) → IsApart number (variables_of_conditions cs) → (n : ℕ) (w : List Element)
    → map (instance_of n) (rows (conditions_with (variable_with number) cs) w) ≡ map (instance_of n) (rows cs w)
renumbered_instances number cs apart n w =
    let vs : List ℕ = variables_of_conditions cs in
    ap (λ ds. map (instance_of n) (rows ds w)) (conditions_agree cs number (wide number vs) (λ v e. sym (wide_same number vs v e)))
    ∙ ap (map (instance_of n)) (from_again (wide number vs) (wide_apart number vs apart) cs w (empty_row ∷ []))
    ∙ instances_kept (wide number vs) n (rows cs w)

pub stands_in_order : (p : ProductionOf) (v : ℕ) → is_among (variables_of_conditions p.conditions) v ≡ true → is_among (in_order_of_occurrence p.conditions p.actions) v ≡ true
stands_in_order p v e = each_among [] (variables_in p) v ∙ among_front (variables_of_conditions p.conditions) (flat_map variables_of_action p.actions) v e

pub canonical_forms_match : CanonicalFormsMatch
unfolding canonical
canonical_forms_match p number w =
    let order : List ℕ = in_order_of_occurrence p.conditions p.actions in
    ap (λ cs. map (instance_of number) (rows cs w)) (conditions_by_places order p.conditions)
    ∙ renumbered_instances (place_among order) p.conditions (λ u v e f same. place_apart order u v (stands_in_order p u e) (stands_in_order p v f) same) number w
