-- A list in which each condition is ready where it stands is taken place by place.
use Rattle.std.proofs.Common.{◌≡◌, ℕ, suc, Bool, true, false, List, [], ◌∷◌, ◌++◌, refl, sym, ◌∙◌, ap, subst, arith, append_assoc}
use Rattle.std.proofs.lemmas.List.{append-nil}
use Rattle.soar_rule.specs.Conditions.{Condition, Conditions, no_more, condition_and, all_of}
use Rattle.soar_rule.specs.MatchOrder.{is_ready, Taken, nothing_taken, with_condition, count_of, readiness, one_taken}
use Rattle.soar_rule.specs.Variables.{is_among, bound_by}
use Rattle.rule_laws.proofs.LeftLaws.{left_of, left_on, left_here, left_after, left_all, among_more, among_this}
use Rattle.rule_laws.proofs.RunLaws.{Run, ended, going, after_steps}
use Rattle.rule_laws.proofs.StepLaws.{step_on, step_takes}

-- ---- one step

-- a step takes the first condition that is left, and leaves the others
pub record TakesFirst (cs : Conditions) (inside : Bool) (outside : List ℕ) (place : ℕ) (t : Taken) (d : Condition) (rest : Conditions) : Type 0 where
  pub position : ℕ
  pub steps : one_taken cs inside outside place t ≡ with_condition position d t
  pub leaves : left_of cs place (position ∷ t.places) ≡ rest

takes_first :
    (cs : Conditions) (inside : Bool) (outside : List ℕ) (place : ℕ) (t : Taken) (c d : Condition) (rest : Conditions) →
    left_of cs place t.places ≡ condition_and c rest → readiness c inside outside t.bound ≡ is_ready d → TakesFirst cs inside outside place t d rest
takes_first no_more inside outside place t c d rest l r = absurd (cc)
takes_first (condition_and b cs) inside outside place t c d rest l r = by (is_among t.places place) refl (λ e. takes_first cs inside outside (suc place) t c d rest e r)
  where
    by : (a : Bool) → is_among t.places place ≡ a → (left_of cs (suc place) t.places ≡ condition_and c rest → TakesFirst cs inside outside (suc place) t d rest) →
        TakesFirst (condition_and b cs) inside outside place t d rest
    by true e i =
        let f = i (sym (left_on b cs place t.places e) ∙ l) in
        record {
          position = f.position;
          steps = step_on b cs inside outside place t e ∙ f.steps;
          leaves = left_on b cs place (f.position ∷ t.places) (among_more f.position place t.places e) ∙ f.leaves;
        }
    by false e i =
        let f = sym (left_here b cs place t.places e) ∙ l in
        let same : b ≡ c = cc in
        let rests : left_of cs (suc place) t.places ≡ rest = cc in
        record {
          position = place;
          steps = step_takes b cs inside outside place t e d (ap (λ x. readiness x inside outside t.bound) same ∙ r);
          leaves = left_on b cs place (place ∷ t.places) (among_this place t.places) ∙ left_after cs place (suc place) t.places (omega arith) ∙ rests;
        }

-- ---- all steps

-- each is ready as it stands, where it stands
abbrev pub InOrder : Bool → List ℕ → List ℕ → List Condition → Type 0
InOrder inside outside bound [] = Unit {0}
InOrder inside outside bound (d ∷ ds) = (readiness d inside outside bound ≡ is_ready d) × InOrder inside outside (bound ++ bound_by d) ds

-- what is bound after these
abbrev pub bound_after : List ℕ → List Condition → List ℕ
bound_after bound [] = bound
bound_after bound (d ∷ ds) = bound_after (bound ++ bound_by d) ds

pub run_binds :
    {inside : Bool} {outside bound last : List ℕ} {cs left : Conditions} {order : List Condition} → Run inside outside bound cs order last left → last ≡ bound_after bound order
run_binds ended = refl
run_binds (going c d o r more) = run_binds more

-- these were taken, and nothing is left
pub record InPlace (cs : Conditions) (t : Taken) (ds : List Condition) (u : Taken) : Type 0 where
  pub order : u.order ≡ t.order ++ ds
  pub bound : u.bound ≡ bound_after t.bound ds
  pub left : left_of cs 0 u.places ≡ no_more

module _ (cs : Conditions) (inside : Bool) (outside : List ℕ) where
  in_place :
      (ds : List Condition) (t : Taken) → left_of cs 0 t.places ≡ all_of ds → InOrder inside outside t.bound ds →
      InPlace cs t ds (after_steps cs inside outside (count_of (all_of ds)) t)
  in_place [] t l o = record { order = sym (append-nil t.order); bound = refl; left = l }
  in_place (d ∷ ds) t l o = of (takes_first cs inside outside 0 t d d (all_of ds) l o.0) (λ u. in_place ds u)
    where
      of : TakesFirst cs inside outside 0 t d (all_of ds) →
          ((u : Taken) → left_of cs 0 u.places ≡ all_of ds → InOrder inside outside u.bound ds →
          InPlace cs u ds (after_steps cs inside outside (count_of (all_of ds)) u)) →
          InPlace cs t (d ∷ ds) (after_steps cs inside outside (count_of (all_of (d ∷ ds))) t)
      of f i =
          let s = i (with_condition f.position d t) f.leaves o.1 in
          subst (λ u. InPlace cs t (d ∷ ds) (after_steps cs inside outside (count_of (all_of ds)) u)) (sym f.steps)
          (record { order = s.order ∙ append_assoc t.order (d ∷ []) ds; bound = s.bound; left = s.left })

pub all_in_place :
    (ds : List Condition) (inside : Bool) (outside bound : List ℕ) → InOrder inside outside bound ds →
    InPlace (all_of ds) (nothing_taken bound) ds (after_steps (all_of ds) inside outside (count_of (all_of ds)) (nothing_taken bound))
all_in_place ds inside outside bound o = in_place (all_of ds) inside outside ds (nothing_taken bound) (left_all (all_of ds) 0) o
