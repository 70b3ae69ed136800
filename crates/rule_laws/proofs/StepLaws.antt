-- One step of the order: the first condition that is ready is taken, or none of those left is ready.
use Rattle.std.proofs.Common.{◌≡◌, ◌≤◌, ℕ, suc, Bool, true, false, List, ◌∷◌, refl, sym, ◌∙◌, subst, arith}
use Rattle.soar_rule.specs.Conditions.{Condition, Conditions, no_more, condition_and}
use Rattle.soar_rule.specs.MatchOrder.{Readiness, is_ready, lacks, is_unlinked, Taken, with_condition, readiness, one_taken}
use Rattle.soar_rule.specs.Reordering.{TakenOut, first, later}
use Rattle.soar_rule.specs.Variables.{is_among}
use Rattle.rule_laws.proofs.EachLaws.{Each}
use Rattle.rule_laws.proofs.LeftLaws.{left_of, left_on, left_here, left_after, among_more, among_this, among_after}

-- ---- what a step does with the first condition

module _ (c : Condition) (cs : Conditions) (inside : Bool) (outside : List ℕ) (place : ℕ) (t : Taken) where
  abbrev stepped : Taken
  stepped = one_taken (condition_and c cs) inside outside place t

  abbrev past : Taken
  past = one_taken cs inside outside (suc place) t

  pub step_on : is_among t.places place ≡ true → stepped ≡ past
  step_on e = cc

  pub step_takes : is_among t.places place ≡ false → (d : Condition) → readiness c inside outside t.bound ≡ is_ready d → stepped ≡ with_condition place d t
  step_takes e d r = cc

  step_lacks : is_among t.places place ≡ false → (v : ℕ) → readiness c inside outside t.bound ≡ lacks v → stepped ≡ past
  step_lacks e v r = cc

  step_unlinked : is_among t.places place ≡ false → readiness c inside outside t.bound ≡ is_unlinked → stepped ≡ past
  step_unlinked e r = cc

-- ---- what a step does with all

abbrev pub NotReady : Bool → List ℕ → List ℕ → Condition → Type 0
NotReady inside outside bound c = (d : Condition) → readiness c inside outside bound ≡ is_ready d → ⊥

-- a step from a place on: it rests, and none that is left is ready; or it takes one that is
pub data Stepped (cs : Conditions) (inside : Bool) (outside : List ℕ) (place : ℕ) (t : Taken) : Type 0 where
  rests :
      one_taken cs inside outside place t ≡ t → Each (NotReady inside outside t.bound) (left_of cs place t.places) →
      Stepped cs inside outside place t
  takes :
      (at : ℕ) (c d : Condition) → place ≤ at → one_taken cs inside outside place t ≡ with_condition at d t →
      TakenOut c (left_of cs place t.places) (left_of cs place (at ∷ t.places)) → readiness c inside outside t.bound ≡ is_ready d →
      Stepped cs inside outside place t

module _ (c : Condition) (cs : Conditions) (inside : Bool) (outside : List ℕ) (place : ℕ) (t : Taken) where
  abbrev Goes : Type 0
  Goes = Stepped (condition_and c cs) inside outside place t

  abbrev GoesPast : Type 0
  GoesPast = Stepped cs inside outside (suc place) t

  out_of :
      {b : Condition} {more rest : Conditions} (at : ℕ) → left_of (condition_and c cs) place t.places ≡ more →
      left_of (condition_and c cs) place (at ∷ t.places) ≡ rest → TakenOut b more rest →
      TakenOut b (left_of (condition_and c cs) place t.places) (left_of (condition_and c cs) place (at ∷ t.places))
  out_of {b} {more} at e f o = subst (λ l. TakenOut b l (left_of (condition_and c cs) place (at ∷ t.places))) (sym e) (subst (λ l. TakenOut b more l) (sym f) o)

  -- the first is taken already
  stepped_on : is_among t.places place ≡ true → GoesPast → Goes
  stepped_on e (rests s n) =
      rests (step_on c cs inside outside place t e ∙ s) (subst (λ l. Each (NotReady inside outside t.bound) l) (sym (left_on c cs place t.places e)) n)
  stepped_on e (takes at b d h s o r) =
      takes at b d (omega arith) (step_on c cs inside outside place t e ∙ s)
      (out_of at (left_on c cs place t.places e) (left_on c cs place (at ∷ t.places) (among_more at place t.places e)) o) r

  -- the first is passed by
  stepped_by : is_among t.places place ≡ false → NotReady inside outside t.bound c → stepped c cs inside outside place t ≡ past c cs inside outside place t → GoesPast → Goes
  stepped_by e m p (rests s n) = rests (p ∙ s) (subst (λ l. Each (NotReady inside outside t.bound) l) (sym (left_here c cs place t.places e)) (m, n))
  stepped_by e m p (takes at b d h s o r) =
      takes at b d (omega arith) (p ∙ s)
      (out_of at (left_here c cs place t.places e) (left_here c cs place (at ∷ t.places) (among_after at place t.places h ∙ e))
      (later b c (left_of cs (suc place) t.places) (left_of cs (suc place) (at ∷ t.places)) o)) r

  -- the first is taken
  stepped_here : is_among t.places place ≡ false → (d : Condition) → readiness c inside outside t.bound ≡ is_ready d → Goes
  stepped_here e d r =
      takes place c d (omega arith) (step_takes c cs inside outside place t e d r)
      (out_of place (left_here c cs place t.places e)
      (left_on c cs place (place ∷ t.places) (among_this place t.places) ∙ left_after cs place (suc place) t.places (omega arith))
      (first c (left_of cs (suc place) t.places))) r

  stepped_first : is_among t.places place ≡ false → (r : Readiness) → readiness c inside outside t.bound ≡ r → GoesPast → Goes
  stepped_first e (is_ready d) r i = stepped_here e d r
  stepped_first e (lacks v) r i = stepped_by e (λ d q. cc) (step_lacks c cs inside outside place t e v r) i
  stepped_first e is_unlinked r i = stepped_by e (λ d q. cc) (step_unlinked c cs inside outside place t e r) i

pub step : (cs : Conditions) (inside : Bool) (outside : List ℕ) (place : ℕ) (t : Taken) → Stepped cs inside outside place t
step no_more inside outside place t = rests refl tt
step (condition_and c cs) inside outside place t = by (is_among t.places place) refl (step cs inside outside (suc place) t)
  where
    by : (b : Bool) → is_among t.places place ≡ b → Stepped cs inside outside (suc place) t → Stepped (condition_and c cs) inside outside place t
    by true e i = stepped_on c cs inside outside place t e i
    by false e i = stepped_first c cs inside outside place t e (readiness c inside outside t.bound) refl i
