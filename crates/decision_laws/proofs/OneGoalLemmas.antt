-- The decision of an agent with one goal, and what it holds afterwards.
use Rattle.std.proofs.Common.{◌≡◌, refl, ap, ◌∙◌, ℕ, ◌<◌, nat_lt, Bool, true, false, cond, not, ◌&&◌, inl, inr, List, [], ◌∷◌, drop, filter, Some, None, arith}
use Rattle.defs_soar.specs.declared.goal.Goal.{Goal}
use Rattle.defs_soar.specs.declared.preference.Preference.{Preference}
use Rattle.defs_soar.specs.Agents.{Agent, LiveFiring}
use Rattle.defs_soar.specs.Decision.{after_walk_alone, decided_alone, view_of}
use Rattle.defs_soar.specs.Laws.{IsIn}
use Rattle.defs_soar.specs.Preferences.{without_firings}
use Rattle.defs_soar.specs.Trimming.{at_depths, numbers_of, with_all_removed}
use Rattle.defs_soar.specs.Walk.{walked}
use Rattle.soar_decide.specs.Outcomes as outcome
use Rattle.decision_laws.specs.OneGoal.{DecisionKeepsAll, DecisionOfOne, NothingIsBelow, decided_with, step_by}
use Rattle.decision_laws.specs.Walks.{goal_after, walked_by}
use Rattle.decision_laws.proofs.WalkLemmas.{walk_of_one}

-- ---- the decision

ends_alone : (a : Agent) (goal : Goal) (found : outcome.Outcome) → after_walk_alone a (walked_by goal found) ≡ decided_with a goal found
ends_alone a goal outcome.stays = refl
ends_alone a goal (outcome.selects None takes) = refl
ends_alone a goal (outcome.selects (Some selection) takes) = refl
ends_alone a goal (outcome.meets why items) = refl

pub decision_of_one : DecisionOfOne
unfolding decided_alone
decision_of_one a goal one =
    ap (λ goals. after_walk_alone a (walked (view_of a) None goals)) one
    ∙ ap (after_walk_alone a) (walk_of_one (view_of a) goal)
    ∙ ends_alone a goal (outcome.outcome_at (view_of a) goal)

-- ---- what is held

below_two : (n : ℕ) → n < 2 → nat_lt n 2 ≡ true
below_two n h = grind arith

all_stay : (live : List LiveFiring) → ((l : LiveFiring) → IsIn l live → l.depth < 2) → filter (λ l. nat_lt l.depth 2) live ≡ live
all_stay [] top = refl
all_stay (l ∷ live) top =
    ap (λ b. cond b (l ∷ filter (λ l. nat_lt l.depth 2) live) (filter (λ l. nat_lt l.depth 2) live)) (below_two l.depth (top l (inl refl)))
    ∙ ap (λ rest. l ∷ rest) (all_stay live (λ other i. top other (inr i)))

none_goes : (live : List LiveFiring) → ((l : LiveFiring) → IsIn l live → l.depth < 2) → filter (λ l. not (nat_lt l.depth 2)) live ≡ []
none_goes [] top = refl
none_goes (l ∷ live) top =
    ap (λ b. cond (not b) (l ∷ filter (λ l. not (nat_lt l.depth 2)) live) (filter (λ l. not (nat_lt l.depth 2)) live)) (below_two l.depth (top l (inl refl)))
    ∙ none_goes live (λ other i. top other (inr i))

never : (b : Bool) → not (not b && false) ≡ true
never true = refl
never false = refl

rows_stay : (rows : List Preference) → without_firings rows [] ≡ rows
rows_stay [] = refl
rows_stay (row ∷ rows) =
    ap (λ b. cond b (row ∷ without_firings rows []) (without_firings rows [])) (never row.operator_support) ∙ ap (λ rest. row ∷ rest) (rows_stay rows)

pub nothing_is_below : NothingIsBelow
nothing_is_below a goal other one top = λ k. record {
  goals = other ∷ [];
  rows = (ap (λ live. without_firings a.holding.rows (numbers_of live)) (none_goes a.holding.live top) ∙ rows_stay a.holding.rows) k;
  inputs = a.holding.inputs;
  live = all_stay a.holding.live top k;
  removed = with_all_removed (at_depths 2 (drop 1 (one k))) [];
}

pub decision_keeps_all : DecisionKeepsAll
decision_keeps_all a goal one top =
    let found = outcome.outcome_at (view_of a) goal in
    decision_of_one a goal one ∙ ap (step_by a found) (nothing_is_below a goal (goal_after goal found) one top)
