-- A walk leaves the first goals.
use Rattle.std.proofs.Common.{◌≡◌, refl, ap, sym, subst, ◌<◌, List, [], ◌∷◌, length, Option, Some, None, arith}
use Rattle.defs_soar.specs.declared.goal.Goal.{Goal}
use Rattle.defs_soar.specs.declared.goal.Item.{Item}
use Rattle.defs_soar.specs.Walk.{View, renewed, walked}
use Rattle.soar_decide.specs.Outcomes as outcome
use Rattle.decision_laws.specs.Walks.{walked_by}
use Rattle.decision_walk.specs.First.{AreFirst, WalkKeepsFirst}
use Rattle.decision_walk.proofs.WalkLemmas.{of_walks}

-- the same goal but for its selection and its items
record IsSame (g h : Goal) : Type 0 where
  id_is : h.id ≡ g.id
  impasse_is : h.impasse ≡ g.impasse

last_left : (g h : Goal) (deeper : List Goal) → IsSame g h → AreFirst (g ∷ deeper) (h ∷ [])
last_left g h deeper same = record {
  some = omega (arith);
  few = omega (arith);
  identifiers = ap (λ s. s ∷ []) same.id_is;
  impasses = ap (λ why. why ∷ []) same.impasse_is;
}

one_more : (g h : Goal) (deeper left : List Goal) → IsSame g h → AreFirst deeper left → AreFirst (g ∷ deeper) (h ∷ left)
one_more g h deeper left same below = record {
  some = omega (arith);
  few = omega (arith, below.few);
  identifiers = λ i. same.id_is i ∷ below.identifiers i;
  impasses = λ i. same.impasse_is i ∷ below.impasses i;
}

renewed_same : (r : Option (List Item)) (g : Goal) → IsSame g (renewed r g)
renewed_same None g = record { id_is = refl; impasse_is = refl }
renewed_same (Some items) g = record { id_is = refl; impasse_is = refl }

ended : (g h : Goal) (deeper : List Goal) (found : outcome.Outcome) → IsSame g h → AreFirst (g ∷ deeper) (walked_by h found).goals
ended g h deeper outcome.stays same = last_left g h deeper same
ended g h deeper (outcome.selects selection takes) same = last_left g (record h { selected = selection }) deeper (record { id_is = same.id_is; impasse_is = same.impasse_is })
ended g h deeper (outcome.meets why items) same = last_left g (record h { selected = None }) deeper (record { id_is = same.id_is; impasse_is = same.impasse_is })

pub walk_keeps_first : WalkKeepsFirst
walk_keeps_first v r goal deeper =
    of_walks v (λ r goals w. AreFirst goals w.goals)
    (λ r goal deeper. ended goal (renewed r goal) deeper (outcome.outcome_at v (renewed r goal)) (renewed_same r goal))
    (λ r goal deeper w below. one_more goal (renewed r goal) deeper w.goals (renewed_same r goal) below)
    (λ r goal deeper w why items e below.
    one_more goal (record (renewed r goal) { selected = None }) deeper w.goals (record { id_is = (renewed_same r goal).id_is; impasse_is = (renewed_same r goal).impasse_is }) below)
    r goal deeper

pub are_first : (v : View) (old new : List Goal) → 0 < length old → new ≡ (walked v None old).goals → AreFirst old new
are_first v [] new some e = absurd (omega (arith, some))
are_first v (goal ∷ deeper) new some e = subst (AreFirst (goal ∷ deeper)) (sym e) (walk_keeps_first v None goal deeper)
