-- Conditions in match order have no variables but those that they had before.
use Rattle.std.proofs.Common.{◌≡◌, ℕ, zero, suc, ◌&&◌, Bool, true, false, List, [], ◌∷◌, ◌++◌, map, refl, sym, ap, subst, ◌∙◌}
use Rattle.std.proofs.lemmas.Bool.{and_parts, and_from}
use Rattle.std.specs.List.{list_all}
use Rattle.soar_rule.specs.declared.cond.Cond.{Cond, map-Cond}
use Rattle.soar_rule.specs.declared.cond.Cond.TheFolds.{fold-roll-Cond, ind-Cond}
use Rattle.soar_rule.specs.declared.cond.Cond.TheOpen.{Cond-F, Pos, Neg, Conj}
use Rattle.soar_rule.specs.Below.{pattern_below, cond_step, cond_below, conds_below}
use Rattle.soar_rule.specs.Conditions.{Condition, positive, negated, conjunctive, Conditions, no_more, condition_and, condition_step, condition, conditions, all_of}
use Rattle.soar_rule.specs.MatchOrder.{missing_in, Readiness, is_ready, lacks, is_unlinked, Taken, nothing_taken, count_of, readiness, one_taken}
use Rattle.soar_rule.specs.Repeat.{repeated}
use Rattle.soar_rule.specs.Variables.{plain_outside}
use Rattle.rule_check.specs.Taking.{ordered_from}
use Rattle.rule_check.proofs.AgreeLemmas.{one_or_rest}
use Rattle.rule_check.proofs.LookLemmas.{unless_ready, linked_ready}

-- each variable has a number below a bound, of conditions as plain data
abbrev mutual
  pub condition_below : ℕ → Condition → Bool
  condition_below n (positive p) = pattern_below n p
  condition_below n (negated p) = pattern_below n p
  condition_below n (conjunctive inside) = conditions_below n inside

  pub conditions_below : ℕ → Conditions → Bool
  conditions_below n no_more = true
  conditions_below n (condition_and c cs) = condition_below n c && conditions_below n cs

-- ---- the code's conditions

abbrev IsSeenBelow : ℕ → Cond → Type 0
IsSeenBelow n c = condition_below n (condition c) ≡ cond_below n c

inside_below : (n : ℕ) (inside : List ((c : Cond) × IsSeenBelow n c)) → conditions_below n (all_of (map condition (map (λ e. e.0) inside))) ≡ list_all (λ b. b) (map (cond_below n) (map (λ e. e.0) inside))
inside_below n [] = refl
inside_below n (e ∷ inside) = ap (λ b. b && conditions_below n (all_of (map condition (map (λ d. d.0) inside)))) e.1 ∙ ap (λ b. cond_below n e.0 && b) (inside_below n inside)

layer_below : (n : ℕ) (y : Cond-F ((c : Cond) × IsSeenBelow n c))
    → condition_below n (condition_step (map-Cond Cond Condition condition (map-Cond ((c : Cond) × IsSeenBelow n c) Cond (λ e. e.0) y)))
    ≡ cond_step n (map-Cond Cond Bool (cond_below n) (map-Cond ((c : Cond) × IsSeenBelow n c) Cond (λ e. e.0) y))
layer_below n (Pos p) = refl
layer_below n (Neg p) = refl
layer_below n (Conj inside) = inside_below n inside

cond_seen_below : (n : ℕ) (c : Cond) → IsSeenBelow n c
cond_seen_below n = ind-Cond (IsSeenBelow n) (λ x y is.
    let P : Cond-F Cond → Type 0 = λ z. condition_below n (condition_step (map-Cond Cond Condition condition z)) ≡ cond_step n (map-Cond Cond Bool (cond_below n) z) in
    ap (condition_below n) (fold-roll-Cond Condition condition_step x) ∙ subst P is (layer_below n y) ∙ sym (fold-roll-Cond Bool (cond_step n) x))

pub conds_seen_below : (n : ℕ) (conds : List Cond) → conditions_below n (conditions conds) ≡ conds_below n conds
conds_seen_below n [] = refl
conds_seen_below n (c ∷ conds) = ap (λ b. b && conditions_below n (conditions conds)) (cond_seen_below n c) ∙ ap (λ b. cond_below n c && b) (conds_seen_below n conds)

-- ---- the order

module _ (n : ℕ) where
  pushed_below : (order : List Condition) (c : Condition) → conditions_below n (all_of order) ≡ true → condition_below n c ≡ true → conditions_below n (all_of (order ++ c ∷ [])) ≡ true
  pushed_below [] c all one = and_from (condition_below n c) true one refl
  pushed_below (d ∷ order) c all one =
      let both = and_parts (condition_below n d) (conditions_below n (all_of order)) all in
      and_from (condition_below n d) (conditions_below n (all_of (order ++ c ∷ []))) both.0 (pushed_below order c both.1 one)

  one_below : (taken : Bool) (r : Readiness) (place : ℕ) (t rest : Taken) → conditions_below n (all_of t.order) ≡ true → conditions_below n (all_of rest.order) ≡ true → ((d : Condition) → r ≡ is_ready d → condition_below n d ≡ true)
      → conditions_below n (all_of (one_or_rest taken r place t rest).order) ≡ true
  one_below true r place t rest all later ready = later
  one_below false (is_ready d) place t rest all later ready = pushed_below t.order d all (ready d refl)
  one_below false (lacks v) place t rest all later ready = later
  one_below false is_unlinked place t rest all later ready = later

  again_below : (f : Taken → Taken) → ((t : Taken) → conditions_below n (all_of t.order) ≡ true → conditions_below n (all_of (f t).order) ≡ true) → (k : ℕ) (t : Taken) → conditions_below n (all_of t.order) ≡ true
      → conditions_below n (all_of (repeated k f t).order) ≡ true
  again_below f step zero t all = all
  again_below f step (suc k) t all = again_below f step k (f t) (step t all)

  mutual
    ready_below : (c : Condition) → condition_below n c ≡ true → (inside : Bool) (outside bound : List ℕ) (d : Condition) → readiness c inside outside bound ≡ is_ready d → condition_below n d ≡ true
    ready_below (positive p) below inside outside bound d ready =
        subst (λ c. condition_below n c ≡ true) (linked_ready _ (missing_in bound p) (positive p) d ready) below
    ready_below (negated p) below inside outside bound d ready = subst (λ c. condition_below n c ≡ true) (unless_ready _ (negated p) d ready) below
    ready_below (conjunctive cs) below inside outside bound d ready =
        subst (λ c. condition_below n c ≡ true) (unless_ready _ (conjunctive (all_of (ordered_from cs true bound).order)) d ready)
        (again_below (λ t. one_taken cs true (plain_outside cs) 0 t) (λ t all. taken_below cs below true (plain_outside cs) 0 t all) (count_of cs) (nothing_taken bound) refl)

    taken_below : (cs : Conditions) → conditions_below n cs ≡ true → (inside : Bool) (outside : List ℕ) (place : ℕ) (t : Taken) → conditions_below n (all_of t.order) ≡ true
        → conditions_below n (all_of (one_taken cs inside outside place t).order) ≡ true
    taken_below no_more below inside outside place t all = all
    taken_below (condition_and c cs) below inside outside place t all =
        one_below _ (readiness c inside outside t.bound) place t (one_taken cs inside outside (suc place) t) all
        (taken_below cs (and_parts (condition_below n c) (conditions_below n cs) below).1 inside outside (suc place) t all)
        (ready_below c (and_parts (condition_below n c) (conditions_below n cs) below).0 inside outside t.bound)

  pub ordered_below : (cs : Conditions) → conditions_below n cs ≡ true → (inside : Bool) (bound : List ℕ) → conditions_below n (all_of (ordered_from cs inside bound).order) ≡ true
  ordered_below cs below inside bound =
      again_below (λ t. one_taken cs inside (plain_outside cs) 0 t) (λ t all. taken_below cs below inside (plain_outside cs) 0 t all) (count_of cs) (nothing_taken bound) refl

-- the order of the code's conditions
pub conds_stay_below : (n : ℕ) (conds ordered : List Cond) (inside : Bool) (bound : List ℕ) → conds_below n conds ≡ true → map condition ordered ≡ (ordered_from (conditions conds) inside bound).order → conds_below n ordered ≡ true
conds_stay_below n conds ordered inside bound below same =
    sym (conds_seen_below n ordered)
    ∙ ap (λ order. conditions_below n (all_of order)) same
    ∙ ordered_below n (conditions conds) (conds_seen_below n conds ∙ below) inside bound
