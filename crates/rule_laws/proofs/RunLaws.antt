-- The steps of the order together: conditions are taken in turn, each ready where it is taken, until none that is left is ready.
use Rattle.std.proofs.Common.{◌≡◌, ◌≤◌, ℕ, zero, suc, Bool, List, [], ◌∷◌, ◌++◌, refl, sym, ◌∙◌, ap, subst, arith, append_assoc}
use Rattle.std.proofs.lemmas.List.{append-nil}
use Rattle.soar_rule.specs.Conditions.{Condition, Conditions, no_more, condition_and}
use Rattle.soar_rule.specs.MatchOrder.{is_ready, Taken, nothing_taken, with_condition, count_of, readiness, one_taken}
use Rattle.soar_rule.specs.Repeat.{repeated}
use Rattle.soar_rule.specs.Reordering.{TakenOut, first, later}
use Rattle.soar_rule.specs.Variables.{bound_by}
use Rattle.rule_laws.proofs.EachLaws.{Each}
use Rattle.rule_laws.proofs.LeftLaws.{left_of, left_all}
use Rattle.rule_laws.proofs.StepLaws.{NotReady, Stepped, rests, takes, step}

-- from some bound variables and conditions, these are taken in this order, and leave other bound variables and conditions
pub data Run (inside : Bool) (outside : List ℕ) : List ℕ → Conditions → List Condition → List ℕ → Conditions → Type 0 where
  ended : {bound : List ℕ} {cs : Conditions} → Run inside outside bound cs [] bound cs
  going :
      {bound last : List ℕ} {cs rest left : Conditions} {order : List Condition} (c d : Condition) → TakenOut c cs rest → readiness c inside outside bound ≡ is_ready d →
      Run inside outside (bound ++ bound_by d) rest order last left → Run inside outside bound cs (d ∷ order) last left

-- what has been taken from one state to another, after which none that is left is ready
pub record Settled (cs : Conditions) (inside : Bool) (outside : List ℕ) (t : Taken) (u : Taken) : Type 0 where
  pub order : List Condition
  pub grown : u.order ≡ t.order ++ order
  pub run : Run inside outside t.bound (left_of cs 0 t.places) order u.bound (left_of cs 0 u.places)
  pub settled : Each (NotReady inside outside u.bound) (left_of cs 0 u.places)

taken_out_count : {c : Condition} {cs rest : Conditions} → TakenOut c cs rest → count_of cs ≡ suc (count_of rest)
taken_out_count (first c cs) = refl
taken_out_count (later c d cs rest o) = ap suc (taken_out_count o)

none_left : (P : Condition → Type 0) (cs : Conditions) → count_of cs ≤ 0 → Each P cs
none_left P no_more h = tt
none_left P (condition_and c cs) h = absurd (omega arith)

-- a step that rests once rests for good
rests_on : {A : Type 0} (f : A → A) (a : A) → f a ≡ a → (n : ℕ) → repeated n f a ≡ a
rests_on f a e zero = refl
rests_on f a e (suc n) = ap (repeated n f) e ∙ rests_on f a e n

module _ (cs : Conditions) (inside : Bool) (outside : List ℕ) where
  abbrev pub after_steps : ℕ → Taken → Taken
  after_steps n t = repeated n (λ t. one_taken cs inside outside 0 t) t

  at_rest : (t : Taken) → Each (NotReady inside outside t.bound) (left_of cs 0 t.places) → Settled cs inside outside t t
  at_rest t n = record { order = []; grown = sym (append-nil t.order); run = ended; settled = n }

  -- as many steps as there are conditions left suffice
  settles : (n : ℕ) (t : Taken) → count_of (left_of cs 0 t.places) ≤ n → Settled cs inside outside t (after_steps n t)
  settles zero t h = at_rest t (none_left (NotReady inside outside t.bound) (left_of cs 0 t.places) h)
  settles (suc n) t h = by (step cs inside outside 0 t) (λ u. settles n u)
    where
      by : Stepped cs inside outside 0 t → ((u : Taken) → count_of (left_of cs 0 u.places) ≤ n → Settled cs inside outside u (after_steps n u)) →
          Settled cs inside outside t (after_steps (suc n) t)
      by (rests e m) i = subst (λ u. Settled cs inside outside t u) (sym (rests_on (λ t. one_taken cs inside outside 0 t) t e (suc n))) (at_rest t m)
      by (takes at c d b e o r) i =
          let u = with_condition at d t in let s = i u (omega (arith, taken_out_count o)) in
          subst (λ v. Settled cs inside outside t (after_steps n v)) (sym e)
          (record { order = d ∷ s.order; grown = s.grown ∙ append_assoc t.order (d ∷ []) s.order; run = going c d o r s.run; settled = s.settled })

-- all steps from the start
pub record Level (cs : Conditions) (inside : Bool) (outside : List ℕ) (bound : List ℕ) (t : Taken) : Type 0 where
  pub run : Run inside outside bound cs t.order t.bound (left_of cs 0 t.places)
  pub settled : Each (NotReady inside outside t.bound) (left_of cs 0 t.places)

pub level : (cs : Conditions) (inside : Bool) (outside bound : List ℕ) → Level cs inside outside bound (after_steps cs inside outside (count_of cs) (nothing_taken bound))
level cs inside outside bound = whole (settles cs inside outside (count_of cs) (nothing_taken bound) enough)
  where
    enough : count_of (left_of cs 0 []) ≤ count_of cs
    enough = subst (λ l. count_of l ≤ count_of cs) (sym (left_all cs 0)) (omega arith)

    whole : {t : Taken} → Settled cs inside outside (nothing_taken bound) t → Level cs inside outside bound t
    whole {t} s = record {
      run = subst (λ (l : Conditions). Run inside outside bound l t.order t.bound (left_of cs 0 t.places)) (left_all cs 0)
          (subst (λ (o : List Condition). Run inside outside bound (left_of cs 0 []) o t.bound (left_of cs 0 t.places)) (sym s.grown) s.run);
      settled = s.settled;
    }
