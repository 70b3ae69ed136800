-- Steps of the walk over a list of goals that is changed in place.
use Rattle.std.proofs.Common.{◌≡◌, refl, ap, sym, ◌∙◌, ℕ, zero, suc, ◌<◌, ◌≤◌, Bool, true, false, cond, List, [], ◌∷◌, length, take, drop, slice_get, Option, Some, None, arith}
use Rattle.defs_soar.specs.declared.goal.Goal.{Goal}
use Rattle.defs_soar.specs.declared.goal.Impasse.{Impasse}
use Rattle.defs_soar.specs.declared.goal.Impasse.TheVariants as impasse
use Rattle.defs_soar.specs.declared.goal.Item.{Item}
use Rattle.defs_soar.specs.declared.goal.Selection.{Selection}
use Rattle.defs_soar.specs.Verdicts.{impasse_eq}
use Rattle.defs_soar.specs.Walk.{View, below_goal, has_impasse, meets, selects_operator, walked}
use Rattle.soar_decide.specs.Outcomes as outcome
use Rattle.soar_goals.specs.Stack.{with_change, with_items, with_selected}
use Rattle.decision_laws.specs.Walks.{walked_by}
use Rattle.decision_laws.proofs.WalkLemmas.{walk_follows_outcomes}
use Rattle.decision_walk.specs.Steps.{GoesOn, outcome_below, stepped, walked_below}
use Rattle.decision_walk.proofs.WalkLemmas.{renewed_in_place}

-- at the top nothing is above
pub from_the_top : (v : View) (goals : List Goal) → walked_below v 0 goals ≡ walked v None goals
from_the_top v [] = refl
from_the_top v (goal ∷ goals) = refl

-- the walk is told by the outcome at the next goal
pub step_is : (v : View) (above : ℕ) (goals : List Goal) → walked_below v above goals ≡ stepped v (outcome_below v above goals) above goals
step_is v zero [] = refl
step_is v (suc above) [] = refl
step_is v zero (goal ∷ goals) = walk_follows_outcomes v None goal goals
step_is v (suc above) (goal ∷ goals) = ap (below_goal goal) (step_is v above goals)

-- ---- the operator stays

pub stays_there : (v : View) (above : ℕ) (goals : List Goal) → above < length goals → length goals ≤ suc above
    → record { goals = goals; decided = meets impasse.OperatorNoChange [] } ≡ stepped v outcome.stays above goals
stays_there v above [] h k = absurd (omega (arith, h))
stays_there v zero (goal ∷ []) h k = refl
stays_there v zero (goal ∷ next ∷ goals) h k = absurd (omega (arith, k))
stays_there v (suc above) (goal ∷ goals) h k = ap (below_goal goal) (stays_there v above goals (omega (arith, h)) (omega (arith, k)))

stays_below : (v : View) (above : ℕ) (goals : List Goal) → suc above < length goals → walked_below v (suc above) goals ≡ stepped v outcome.stays above goals
stays_below v above [] h = absurd (omega (arith, h))
stays_below v zero (goal ∷ []) h = absurd (omega (arith, h))
stays_below v zero (goal ∷ next ∷ goals) h = refl
stays_below v (suc above) (goal ∷ goals) h = ap (below_goal goal) (stays_below v above goals (omega (arith, h)))

pub stays_on : (v : View) (above : ℕ) (goals : List Goal) → suc above < length goals → GoesOn v (stepped v outcome.stays above goals) above goals goals
stays_on v above goals h = record { there = h; as_many = refl; same = stays_below v above goals h }

-- ---- the walk ends

pub selects_there : (v : View) (selection : Selection) (takes : Bool) (above : ℕ) (goals : List Goal) → above < length goals
    → record { goals = take (suc above) (with_change above (with_selected (Some selection)) goals); decided = selects_operator (Some selection.operator) takes }
    ≡ stepped v (outcome.selects (Some selection) takes) above goals
selects_there v selection takes above [] h = absurd (omega (arith, h))
selects_there v selection takes zero (goal ∷ goals) h = refl
selects_there v selection takes (suc above) (goal ∷ goals) h = ap (below_goal goal) (selects_there v selection takes above goals (omega (arith, h)))

pub meets_there : (v : View) (why : Impasse) (items : List Item) (above : ℕ) (goals : List Goal) → above < length goals → has_impasse why (drop (suc above) goals) ≡ false
    → record { goals = take (suc above) (with_change above (with_selected None) goals); decided = meets why items } ≡ stepped v (outcome.meets why items) above goals
meets_there v why items above [] h other = absurd (omega (arith, h))
meets_there v why items zero (goal ∷ goals) h other =
    ap (λ b. cond b (below_goal (record goal { selected = None }) (walked v (Some items) goals)) (walked_by goal (outcome.meets why items))) (sym other)
meets_there v why items (suc above) (goal ∷ goals) h other = ap (below_goal goal) (meets_there v why items above goals (omega (arith, h)) other)

-- ---- the goal below has the impasse

abbrev pub met : ℕ → List Item → List Goal → List Goal
met above items goals = with_change (suc above) (with_items items) (with_change above (with_selected None) goals)

pub length_changed : (above : ℕ) (change : Goal → Goal) (goals : List Goal) → length (with_change above change goals) ≡ length goals
length_changed zero change [] = refl
length_changed (suc above) change [] = refl
length_changed zero change (goal ∷ goals) = refl
length_changed (suc above) change (goal ∷ goals) = ap suc (length_changed above change goals)

pub is_there : (why : Impasse) (above : ℕ) (goals : List Goal) → has_impasse why (drop (suc above) goals) ≡ true → suc above < length goals
is_there why above [] same = absurd (cc)
is_there why zero (goal ∷ []) same = absurd (cc)
is_there why zero (goal ∷ next ∷ goals) same = omega (arith)
is_there why (suc above) (goal ∷ goals) same = omega (arith, is_there why above goals same)

meets_below : (v : View) (why : Impasse) (items : List Item) (above : ℕ) (goals : List Goal) → has_impasse why (drop (suc above) goals) ≡ true
    → walked_below v (suc above) (met above items goals) ≡ stepped v (outcome.meets why items) above goals
meets_below v why items above [] same = absurd (cc)
meets_below v why items zero (goal ∷ []) same = absurd (cc)
meets_below v why items zero (goal ∷ next ∷ goals) same =
    ap (below_goal (record goal { selected = None })) (sym (renewed_in_place v items next goals))
    ∙ ap (λ b. cond b (below_goal (record goal { selected = None }) (walked v (Some items) (next ∷ goals))) (walked_by goal (outcome.meets why items))) (sym same)
meets_below v why items (suc above) (goal ∷ goals) same = ap (below_goal goal) (meets_below v why items above goals same)

pub meets_on : (v : View) (why : Impasse) (items : List Item) (above : ℕ) (goals : List Goal) → has_impasse why (drop (suc above) goals) ≡ true
    → GoesOn v (stepped v (outcome.meets why items) above goals) above goals (met above items goals)
meets_on v why items above goals same =
    let many = length_changed (suc above) (with_items items) (with_change above (with_selected None) goals) ∙ length_changed above (with_selected None) goals in
    record { there = rw many (is_there why above goals same); as_many = many; same = meets_below v why items above goals same }

-- ---- a goal at its place

pub outcome_at_place : (v : View) (above : ℕ) (goals : List Goal) (goal : Goal) → slice_get goals above ≡ Some goal → outcome_below v above goals ≡ outcome.outcome_at v goal
outcome_at_place v above [] goal e = absurd (cc)
outcome_at_place v zero (first ∷ goals) goal e = ap (λ (found : Option Goal). elim found as (λ _. outcome.Outcome) [ Some g ↦ outcome.outcome_at v g | None ↦ outcome.stays ]) e
outcome_at_place v (suc above) (first ∷ goals) goal e = outcome_at_place v above goals goal e

pub impasse_at_place : (why : Impasse) (above : ℕ) (goals : List Goal) (goal : Goal) → slice_get goals above ≡ Some goal → has_impasse why (drop above goals) ≡ impasse_eq goal.impasse why
impasse_at_place why above [] goal e = absurd (cc)
impasse_at_place why zero (first ∷ goals) goal e = ap (λ (found : Option Goal). elim found as (λ _. Bool) [ Some g ↦ impasse_eq g.impasse why | None ↦ false ]) e
impasse_at_place why (suc above) (first ∷ goals) goal e = impasse_at_place why above goals goal e

pub nothing_at_place : (why : Impasse) (above : ℕ) (goals : List Goal) → slice_get goals above ≡ None → has_impasse why (drop above goals) ≡ false
nothing_at_place why zero [] e = refl
nothing_at_place why (suc above) [] e = refl
nothing_at_place why zero (first ∷ goals) e = absurd (cc)
nothing_at_place why (suc above) (first ∷ goals) e = nothing_at_place why above goals e

pub all_taken : (n : ℕ) (goals : List Goal) → length goals ≤ n → goals ≡ take n goals
all_taken zero [] h = refl
all_taken (suc n) [] h = refl
all_taken zero (goal ∷ goals) h = absurd (omega (arith, h))
all_taken (suc n) (goal ∷ goals) h = ap (λ rest. goal ∷ rest) (all_taken n goals (omega (arith, h)))
