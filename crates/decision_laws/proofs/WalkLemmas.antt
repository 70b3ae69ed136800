-- A step of the walk, by what the goal comes to.
use Rattle.std.proofs.Common.{◌≡◌, refl, ◌∙◌, zero, suc, Bool, true, false, cond, List, [], ◌∷◌, length, Option, Some, None}
use Rattle.soar_sym.specs.declared.symbol.Sym.{Sym}
use Rattle.defs_soar.specs.declared.goal.Goal.{Goal}
use Rattle.defs_soar.specs.declared.goal.Impasse.TheVariants as impasse
use Rattle.defs_soar.specs.Verdicts.{Verdict, are_left, is_impasse, drawn_from, uses_word, items_for}
use Rattle.defs_soar.specs.Walk.{View, Walked, below_goal, has_impasse, is_among_left, meets, renewed, selects_operator, verdict_at, walked, with_selection, without_selection}
use Rattle.soar_decide.specs.Outcomes as outcome
use Rattle.decision_laws.specs.Walks.{WalkFollowsOutcomes, WalkOfOne, walked_by, walked_on}

-- the selection of what was drawn
drawn_is : (v : View) (goal : Goal) (operator : Option Sym) (takes : Bool)
    → record { goals = with_selection v.elements v.rows goal operator ∷ []; decided = selects_operator operator takes } ≡ walked_by goal (outcome.selects (outcome.selected_at v goal.id operator) takes)
drawn_is v goal None takes = refl
drawn_is v goal (Some operator) takes = refl

-- the step at a goal, over what its verdict is
at_goal : (v : View) (goal : Goal) (deeper : List Goal) (d : Verdict)
    → (elim d as (λ _. Walked) [
      | are_left left ↦ elim (is_among_left left goal.selected) as (λ _. Walked) [
        | true ↦ elim (length deeper) as (λ _. Walked) [
          | zero ↦ record { goals = goal ∷ []; decided = meets impasse.OperatorNoChange [] }
          | suc n ↦ below_goal goal (walked v None deeper)
        ]
        | false ↦ let operator = drawn_from v.mode v.random left in
            record { goals = with_selection v.elements v.rows goal operator ∷ []; decided = selects_operator operator (uses_word v.mode left) }
      ]
      | is_impasse why scored ↦ let items = items_for v.elements goal.id scored in
          elim (has_impasse why deeper) as (λ _. Walked) [
            | true ↦ below_goal (without_selection goal) (walked v (Some items) deeper)
            | false ↦ record { goals = without_selection goal ∷ []; decided = meets why items }
          ]
    ]) ≡ walked_on v goal (outcome.outcome_of v goal d) deeper
at_goal v goal deeper (are_left left) = among (is_among_left left goal.selected) deeper
  where
    among : (b : Bool) (deeper : List Goal) → (elim b as (λ _. Walked) [
      | true ↦ elim (length deeper) as (λ _. Walked) [
        | zero ↦ record { goals = goal ∷ []; decided = meets impasse.OperatorNoChange [] }
        | suc n ↦ below_goal goal (walked v None deeper)
      ]
      | false ↦ let operator = drawn_from v.mode v.random left in
          record { goals = with_selection v.elements v.rows goal operator ∷ []; decided = selects_operator operator (uses_word v.mode left) }
    ]) ≡ walked_on v goal (cond b outcome.stays (outcome.selects (outcome.selected_at v goal.id (drawn_from v.mode v.random left)) (uses_word v.mode left))) deeper
    among true [] = refl
    among true (next ∷ deeper) = refl
    among false deeper = drawn_is v goal (drawn_from v.mode v.random left) (uses_word v.mode left)
at_goal v goal deeper (is_impasse why scored) = meeting (has_impasse why deeper)
  where
    meeting : (b : Bool) → (let items = items_for v.elements goal.id scored in elim b as (λ _. Walked) [
      | true ↦ below_goal (without_selection goal) (walked v (Some items) deeper)
      | false ↦ record { goals = without_selection goal ∷ []; decided = meets why items }
    ]) ≡ cond b (below_goal (record goal { selected = None }) (walked v (Some (items_for v.elements goal.id scored)) deeper)) (walked_by goal (outcome.meets why (items_for v.elements goal.id scored)))
    meeting true = refl
    meeting false = refl

pub walk_follows_outcomes : WalkFollowsOutcomes
walk_follows_outcomes v renewal goal deeper = let now = renewed renewal goal in at_goal v now deeper (verdict_at v now.id)

ends_at_one : (v : View) (goal : Goal) (found : outcome.Outcome) → walked_on v goal found [] ≡ walked_by goal found
ends_at_one v goal outcome.stays = refl
ends_at_one v goal (outcome.selects selection takes) = refl
ends_at_one v goal (outcome.meets why items) = refl

pub walk_of_one : WalkOfOne
walk_of_one v goal = walk_follows_outcomes v None goal [] ∙ ends_at_one v goal (outcome.outcome_at v goal)
