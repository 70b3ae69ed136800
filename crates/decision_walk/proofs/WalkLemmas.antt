-- What holds at each goal where a walk ends, and below each where it goes on, holds of walks.
use Rattle.std.proofs.Common.{◌≡◌, refl, ◌∙◌, sym, subst, Bool, true, false, cond, List, [], ◌∷◌, Option, Some, None}
use Rattle.defs_soar.specs.declared.goal.Goal.{Goal}
use Rattle.defs_soar.specs.declared.goal.Impasse.{Impasse}
use Rattle.defs_soar.specs.declared.goal.Item.{Item}
use Rattle.defs_soar.specs.Walk.{View, Walked, below_goal, has_impasse, renewed, walked}
use Rattle.soar_decide.specs.Outcomes as outcome
use Rattle.decision_laws.specs.Walks.{walked_by, walked_on}
use Rattle.decision_laws.proofs.WalkLemmas.{walk_follows_outcomes}

ends_at_last : (v : View) (goal : Goal) (found : outcome.Outcome) → walked_on v goal found [] ≡ walked_by goal found
ends_at_last v goal outcome.stays = refl
ends_at_last v goal (outcome.selects selection takes) = refl
ends_at_last v goal (outcome.meets why items) = refl

-- items that are renewed can be put in place first
pub renewed_in_place : (v : View) (items : List Item) (goal : Goal) (deeper : List Goal) → walked v (Some items) (goal ∷ deeper) ≡ walked v None (record goal { items = items } ∷ deeper)
renewed_in_place v items goal deeper = walk_follows_outcomes v (Some items) goal deeper ∙ sym (walk_follows_outcomes v None (record goal { items = items }) deeper)

module _ (v : View) (P : Option (List Item) → List Goal → Walked → Type 0)
    (ends : (r : Option (List Item)) (goal : Goal) (deeper : List Goal) → P r (goal ∷ deeper) (walked_by (renewed r goal) (outcome.outcome_at v (renewed r goal))))
    (stays : (r : Option (List Item)) (goal : Goal) (deeper : List Goal) (w : Walked) → P None deeper w → P r (goal ∷ deeper) (below_goal (renewed r goal) w))
    (meets : (r : Option (List Item)) (goal : Goal) (deeper : List Goal) (w : Walked) (why : Impasse) (items : List Item)
    → outcome.outcome_at v (renewed r goal) ≡ outcome.meets why items → P (Some items) deeper w → P r (goal ∷ deeper) (below_goal (record (renewed r goal) { selected = None }) w)) where
  at_goal : (r : Option (List Item)) (goal next : Goal) (deeper : List Goal) → ((q : Option (List Item)) → P q (next ∷ deeper) (walked v q (next ∷ deeper)))
      → (found : outcome.Outcome) → outcome.outcome_at v (renewed r goal) ≡ found → P r (goal ∷ next ∷ deeper) (walked_on v (renewed r goal) found (next ∷ deeper))
  at_goal r goal next deeper below outcome.stays e = stays r goal (next ∷ deeper) (walked v None (next ∷ deeper)) (below None)
  at_goal r goal next deeper below (outcome.selects selection takes) e = subst (λ found. P r (goal ∷ next ∷ deeper) (walked_by (renewed r goal) found)) e (ends r goal (next ∷ deeper))
  at_goal r goal next deeper below (outcome.meets why items) e = by (has_impasse why (next ∷ deeper))
    where
      by : (b : Bool) → P r (goal ∷ next ∷ deeper) (cond b (below_goal (record (renewed r goal) { selected = None }) (walked v (Some items) (next ∷ deeper))) (walked_by (renewed r goal) (outcome.meets why items)))
      by true = meets r goal (next ∷ deeper) (walked v (Some items) (next ∷ deeper)) why items e (below (Some items))
      by false = subst (λ found. P r (goal ∷ next ∷ deeper) (walked_by (renewed r goal) found)) e (ends r goal (next ∷ deeper))

  pub of_walks : (r : Option (List Item)) (goal : Goal) (deeper : List Goal) → P r (goal ∷ deeper) (walked v r (goal ∷ deeper))
  of_walks r goal [] =
      subst (P r (goal ∷ [])) (sym (walk_follows_outcomes v r goal [] ∙ ends_at_last v (renewed r goal) (outcome.outcome_at v (renewed r goal)))) (ends r goal [])
  of_walks r goal (next ∷ deeper) =
      subst (P r (goal ∷ next ∷ deeper)) (sym (walk_follows_outcomes v r goal (next ∷ deeper))) (at_goal r goal next deeper (λ q. of_walks q next deeper) (outcome.outcome_at v (renewed r goal)) refl)
