-- Where none that is left is ready and nothing is lacking, none is left.
use Rattle.std.proofs.Common.{◌≡◌, ℕ, suc, Bool, true, false, List, Option, Some, None, refl, sym, ◌∙◌, ap, subst}
use Rattle.soar_sym.specs.Equality.{mark_eq}
use Rattle.soar_rule.specs.Checking.{place_left}
use Rattle.soar_rule.specs.Conditions.{Condition, positive, negated, conjunctive, Conditions, no_more, condition_and, all_of}
use Rattle.soar_rule.specs.MatchOrder.{Readiness, is_ready, lacks, is_unlinked, Taken, nothing_taken, count_of, is_positive, or_else, waits_for, missing_in, unless_missing, readiness, first_lack}
use Rattle.soar_rule.specs.Variables.{is_among, variables_of_pattern, variables_of_conditions, plain_outside}
use Rattle.rule_laws.proofs.EachLaws.{Each}
use Rattle.rule_laws.proofs.LeftLaws.{left_of, left_on, left_here}
use Rattle.rule_laws.proofs.RunLaws.{after_steps}
use Rattle.rule_laws.proofs.StepLaws.{NotReady}

-- ---- what a conjunctive negation lacks

-- the inside, as far as it is taken
abbrev pub inside_taken : Conditions → List ℕ → Taken
inside_taken cs bound = after_steps cs true (plain_outside cs) (count_of cs) (nothing_taken bound)

-- a variable that it waits for, or what the first lacks that is left inside
abbrev pub lack_inside : Conditions → List ℕ → List ℕ → Taken → Option ℕ
lack_inside cs outside bound t =
    or_else (waits_for outside bound (variables_of_conditions cs)) (or_else (first_lack cs true true (plain_outside cs) 0 t) (first_lack cs false true (plain_outside cs) 0 t))

pub readiness_inside :
    (cs : Conditions) (inside : Bool) (outside bound : List ℕ) →
    readiness (conjunctive cs) inside outside bound ≡ unless_missing (lack_inside cs outside bound (inside_taken cs bound)) (conjunctive (all_of (inside_taken cs bound).order))
readiness_inside cs inside outside bound = refl

-- ---- where no identifier need be bound

missing_is_linked : (o : Option ℕ) (c : Condition) → unless_missing o c ≡ is_unlinked → ⊥
missing_is_linked None c e = cc
missing_is_linked (Some v) c e = cc

negation_is_linked : (c : Condition) (inside : Bool) (outside bound : List ℕ) → is_positive c ≡ false → readiness c inside outside bound ≡ is_unlinked → ⊥
negation_is_linked (positive p) inside outside bound n e = cc
negation_is_linked (negated p) inside outside bound n e = missing_is_linked (or_else (waits_for outside bound (variables_of_pattern p)) (missing_in bound p)) (negated p) e
negation_is_linked (conjunctive cs) inside outside bound n e =
    missing_is_linked (lack_inside cs outside bound (inside_taken cs bound)) (conjunctive (all_of (inside_taken cs bound).order)) (readiness_inside cs inside outside bound ∙ e)

inside_is_linked : (c : Condition) (outside bound : List ℕ) → readiness c true outside bound ≡ is_unlinked → ⊥
inside_is_linked (positive p) outside bound e = missing_is_linked (missing_in bound p) (positive p) e
inside_is_linked (negated p) outside bound e = negation_is_linked (negated p) true outside bound refl e
inside_is_linked (conjunctive cs) outside bound e = negation_is_linked (conjunctive cs) true outside bound refl e

-- ---- what the first condition lacks

module _ (c : Condition) (cs : Conditions) (outside : List ℕ) (place : ℕ) (t : Taken) where
  abbrev lack : Bool → Bool → Option ℕ
  lack among inside = first_lack (condition_and c cs) among inside outside place t

  abbrev lack_past : Bool → Bool → Option ℕ
  lack_past among inside = first_lack cs among inside outside (suc place) t

  pub lack_on : (among inside : Bool) → is_among t.places place ≡ true → lack among inside ≡ lack_past among inside
  lack_on among inside e = cc

  lack_here :
      (among inside : Bool) → is_among t.places place ≡ false → mark_eq (is_positive c) among ≡ true → (v : ℕ) → readiness c inside outside t.bound ≡ lacks v →
      lack among inside ≡ Some v
  lack_here among inside e m v r = cc

  -- what is left, not ready and lacks nothing is not linked
  unlinked :
      (among inside : Bool) → is_among t.places place ≡ false → mark_eq (is_positive c) among ≡ true → NotReady inside outside t.bound c → lack among inside ≡ None →
      readiness c inside outside t.bound ≡ is_unlinked
  unlinked among inside e m n h = by (readiness c inside outside t.bound) refl
    where
      by : (r : Readiness) → readiness c inside outside t.bound ≡ r → readiness c inside outside t.bound ≡ is_unlinked
      by (is_ready d) r = absurd (n d r)
      by (lacks v) r = let f = lack_here among inside e m v r in cc
      by is_unlinked r = r

  pub place_on : is_among t.places place ≡ true → place_left (condition_and c cs) place t ≡ place_left cs (suc place) t
  place_on e = by c
    where
      by : (c : Condition) → place_left (condition_and c cs) place t ≡ place_left cs (suc place) t
      by (positive p) = cc
      by (negated p) = refl
      by (conjunctive inside) = refl

  place_here : is_among t.places place ≡ false → place_left (condition_and c cs) place t ≡ None → is_positive c ≡ false
  place_here e h = by c h
    where
      by : (c : Condition) → place_left (condition_and c cs) place t ≡ None → is_positive c ≡ false
      by (positive p) h = cc
      by (negated p) h = refl
      by (conjunctive inside) h = refl

-- ---- none is left

abbrev NoneReady : Bool → List ℕ → Conditions → ℕ → Taken → Type 0
NoneReady inside outside cs place t = Each (NotReady inside outside t.bound) (left_of cs place t.places)

module _ (c : Condition) (cs : Conditions) (inside : Bool) (outside : List ℕ) (place : ℕ) (t : Taken) (n : NoneReady inside outside (condition_and c cs) place t) where
  others_not_ready : is_among t.places place ≡ true → NoneReady inside outside cs (suc place) t
  others_not_ready e = subst (λ l. Each (NotReady inside outside t.bound) l) (left_on c cs place t.places e) n

  first_not_ready : is_among t.places place ≡ false → NotReady inside outside t.bound c
  first_not_ready e = (subst (λ l. Each (NotReady inside outside t.bound) l) (left_here c cs place t.places e) n).0

-- inside a conjunctive negation
pub none_inside :
    (cs : Conditions) (outside : List ℕ) (place : ℕ) (t : Taken) → NoneReady true outside cs place t → first_lack cs true true outside place t ≡ None →
    first_lack cs false true outside place t ≡ None → left_of cs place t.places ≡ no_more
none_inside no_more outside place t n h k = refl
none_inside (condition_and c cs) outside place t n h k = by (is_among t.places place) refl (none_inside cs outside (suc place) t)
  where
    by : (b : Bool) → is_among t.places place ≡ b →
        (NoneReady true outside cs (suc place) t → first_lack cs true true outside (suc place) t ≡ None → first_lack cs false true outside (suc place) t ≡ None →
        left_of cs (suc place) t.places ≡ no_more) →
        left_of (condition_and c cs) place t.places ≡ no_more
    by true e i =
        left_on c cs place t.places e
        ∙ i (others_not_ready c cs true outside place t n e) (sym (lack_on c cs outside place t true true e) ∙ h) (sym (lack_on c cs outside place t false true e) ∙ k)
    by false e i = absurd (inside_is_linked c outside t.bound (of (is_positive c) refl))
      where
        of : (b : Bool) → is_positive c ≡ b → readiness c true outside t.bound ≡ is_unlinked
        of true p = unlinked c cs outside place t true true e (ap (λ b. mark_eq b true) p) (first_not_ready c cs true outside place t n e) h
        of false p = unlinked c cs outside place t false true e (ap (λ b. mark_eq b false) p) (first_not_ready c cs true outside place t n e) k

-- outside
pub none_outside :
    (cs : Conditions) (outside : List ℕ) (place : ℕ) (t : Taken) → NoneReady false outside cs place t → place_left cs place t ≡ None →
    first_lack cs false false outside place t ≡ None → left_of cs place t.places ≡ no_more
none_outside no_more outside place t n h k = refl
none_outside (condition_and c cs) outside place t n h k = by (is_among t.places place) refl (none_outside cs outside (suc place) t)
  where
    by : (b : Bool) → is_among t.places place ≡ b →
        (NoneReady false outside cs (suc place) t → place_left cs (suc place) t ≡ None → first_lack cs false false outside (suc place) t ≡ None →
        left_of cs (suc place) t.places ≡ no_more) →
        left_of (condition_and c cs) place t.places ≡ no_more
    by true e i =
        left_on c cs place t.places e
        ∙ i (others_not_ready c cs false outside place t n e) (sym (place_on c cs outside place t e) ∙ h) (sym (lack_on c cs outside place t false false e) ∙ k)
    by false e i =
        let negation = place_here c cs outside place t e h in
        absurd (negation_is_linked c false outside t.bound negation
        (unlinked c cs outside place t false false e (ap (λ b. mark_eq b false) negation) (first_not_ready c cs false outside place t n e) k))
