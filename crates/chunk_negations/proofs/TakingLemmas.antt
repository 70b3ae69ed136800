-- Negations that are taken over, one after another.
use Rattle.std.proofs.Common.{◌≡◌, refl, ap, ◌∙◌, ℕ, ◌+◌, ◌<◌, List, [], ◌∷◌, ◌++◌, length, get_or, drop, map, flat_map, filter, cond}
use Rattle.std.specs.List.{list_any}
use Rattle.std.proofs.lemmas.Grind.{flat_map-append}
use Rattle.std.proofs.lemmas.List.{append-nil, map-append}
use Rattle.std.proofs.lemmas.List.Elements.{filter-append}
use Rattle.soar_rule.specs.declared.cond.Cond.{Cond}
use Rattle.soar_rule.specs.Conditions.{Condition, positive, negated, conjunctive, Conditions, no_more, condition_and, condition, conditions}
use Rattle.soar_rule.specs.Equality.{condition_eq}
use Rattle.soar_rule.specs.Renaming.{condition_with}
use Rattle.defs_match.specs.Testing.{Bindings}
use Rattle.defs_soar.specs.declared.chain.Step.{Step}
use Rattle.defs_soar.specs.ChainIdentifiers.{firing_in}
use Rattle.defs_soar.specs.History.{ChainOf, FiringOf, step_seen}
use Rattle.defs_soar.specs.Negations.{bound_atom, is_about_higher, negations_in, superstate_negations, with_own_from, without_repeats}
use Rattle.chunk_negations.specs.Superstate.{superstate_of}
use Rattle.chunk_negations.proofs.Lists.{joined_next}

without_repeats_of_both : (taken xs ys : List Condition) → without_repeats taken (xs ++ ys) ≡ without_repeats (without_repeats taken xs) ys
without_repeats_of_both taken [] ys = refl
without_repeats_of_both taken (x ∷ xs) ys = without_repeats_of_both (cond (list_any (condition_eq x) taken) taken (taken ++ x ∷ [])) xs ys

-- ---- steps

pub taken_of_one : (c : ChainOf) (depth : ℕ) (f : FiringOf) → flat_map (superstate_negations c depth) (f ∷ []) ≡ superstate_negations c depth f
taken_of_one c depth f = append-nil (superstate_negations c depth f)

pub steps_next : (c : ChainOf) (depth : ℕ) (before after : List Condition) (steps : List Step) (i : ℕ) (x : Step) → i < length steps → x ≡ get_or steps i x
    → after ≡ without_repeats before (flat_map (superstate_negations c depth) (firing_in (step_seen x)))
    → without_repeats after (flat_map (superstate_negations c depth) (flat_map firing_in (map step_seen (drop (i + 1) steps))))
    ≡ without_repeats before (flat_map (superstate_negations c depth) (flat_map firing_in (map step_seen (drop i steps))))
steps_next c depth =
    joined_next without_repeats without_repeats_of_both (λ x. flat_map (superstate_negations c depth) (firing_in (step_seen x)))
    (λ xs. flat_map (superstate_negations c depth) (flat_map firing_in (map step_seen xs)))
    (λ x xs. flat_map-append (superstate_negations c depth) (firing_in (step_seen x)) (flat_map firing_in (map step_seen xs)))

-- ---- conditions

negations_of_both : (c : Condition) (cs : Conditions) → negations_in (condition_and c cs) ≡ negations_in (condition_and c no_more) ++ negations_in cs
negations_of_both (positive p) cs = refl
negations_of_both (negated p) cs = refl
negations_of_both (conjunctive inside) cs = refl

superstate_of_both : (c : ChainOf) (depth : ℕ) (bindings : Bindings) (xs ys : List Condition)
    → superstate_of c depth bindings (xs ++ ys) ≡ superstate_of c depth bindings xs ++ superstate_of c depth bindings ys
superstate_of_both c depth bindings xs ys =
    ap (map (λ d. with_own_from 0 (condition_with (bound_atom bindings) d))) (filter-append (is_about_higher c depth bindings []) xs ys)
    ∙ map-append (λ d. with_own_from 0 (condition_with (bound_atom bindings) d)) (filter (is_about_higher c depth bindings []) xs) (filter (is_about_higher c depth bindings []) ys)

pub conds_next : (c : ChainOf) (depth : ℕ) (bindings : Bindings) (before after : List Condition) (conds : List Cond) (i : ℕ) (x : Cond) → i < length conds → x ≡ get_or conds i x
    → after ≡ without_repeats before (superstate_of c depth bindings (negations_in (conditions (x ∷ []))))
    → without_repeats after (superstate_of c depth bindings (negations_in (conditions (drop (i + 1) conds))))
    ≡ without_repeats before (superstate_of c depth bindings (negations_in (conditions (drop i conds))))
conds_next c depth bindings =
    joined_next without_repeats without_repeats_of_both (λ x. superstate_of c depth bindings (negations_in (conditions (x ∷ []))))
    (λ xs. superstate_of c depth bindings (negations_in (conditions xs)))
    (λ x xs. ap (superstate_of c depth bindings) (negations_of_both (condition x) (conditions xs))
    ∙ superstate_of_both c depth bindings (negations_in (conditions (x ∷ []))) (negations_in (conditions xs)))
