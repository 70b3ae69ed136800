-- What it means that a condition is ready.
use Rattle.std.proofs.Common.{◌≡◌, ℕ, Bool, true, false, ◌||◌, List, Option, Some, None, refl, subst, ◌∙◌, sym}
use Rattle.soar_rule.specs.declared.cond.Pattern.{Pattern}
use Rattle.soar_rule.specs.Conditions.{Condition, positive, negated, conjunctive, Conditions, no_more, all_of}
use Rattle.soar_rule.specs.MatchOrder.{is_ready, is_unlinked, Taken, or_else, waits_for, missing_in, is_linked, unless_missing, readiness, first_lack}
use Rattle.soar_rule.specs.Variables.{variables_of_pattern, variables_of_conditions, plain_outside}
use Rattle.rule_laws.proofs.LackLaws.{inside_taken, lack_inside, readiness_inside, none_inside}
use Rattle.rule_laws.proofs.RunLaws.{Run, Level, level}

pub neither : {A : Type 0} (o later : Option A) → or_else o later ≡ None → (o ≡ None) × (later ≡ None)
neither None later e = (refl, e)
neither (Some a) later e = absurd (cc)

nothing_missing : (o : Option ℕ) (c d : Condition) → unless_missing o c ≡ is_ready d → (o ≡ None) × (d ≡ c)
nothing_missing None c d e = (refl, (cc))
nothing_missing (Some v) c d e = absurd (cc)

-- ---- a positive condition

pub record ReadyPositive (bound : List ℕ) (p : Pattern) (d : Condition) : Type 0 where
  pub same : d ≡ positive p
  pub known : missing_in bound p ≡ None

pub ready_positive :
    (p : Pattern) (inside : Bool) (outside bound : List ℕ) (d : Condition) → readiness (positive p) inside outside bound ≡ is_ready d → ReadyPositive bound p d
ready_positive p inside outside bound d e = by (inside || is_linked bound p) refl
  where
    by : (b : Bool) → (inside || is_linked bound p) ≡ b → ReadyPositive bound p d
    by true l =
        let f : unless_missing (missing_in bound p) (positive p) ≡ is_ready d = cc in
        let m = nothing_missing (missing_in bound p) (positive p) d f in record { same = m.1; known = m.0 }
    by false l = let f : is_unlinked ≡ is_ready d = cc in absurd (cc)

-- ---- a negated one

pub record ReadyNegated (outside bound : List ℕ) (p : Pattern) (d : Condition) : Type 0 where
  pub same : d ≡ negated p
  pub waits : waits_for outside bound (variables_of_pattern p) ≡ None
  pub known : missing_in bound p ≡ None

pub ready_negated :
    (p : Pattern) (inside : Bool) (outside bound : List ℕ) (d : Condition) → readiness (negated p) inside outside bound ≡ is_ready d → ReadyNegated outside bound p d
ready_negated p inside outside bound d e =
    let m = nothing_missing (or_else (waits_for outside bound (variables_of_pattern p)) (missing_in bound p)) (negated p) d e in
    let n = neither (waits_for outside bound (variables_of_pattern p)) (missing_in bound p) m.0 in record { same = m.1; waits = n.0; known = n.1 }

-- ---- a conjunctive one: all that stands inside is taken

pub record ReadyInside (outside bound : List ℕ) (cs : Conditions) (d : Condition) : Type 0 where
  pub order : List Condition
  pub last : List ℕ
  pub same : d ≡ conjunctive (all_of order)
  pub waits : waits_for outside bound (variables_of_conditions cs) ≡ None
  pub run : Run true (plain_outside cs) bound cs order last no_more

pub ready_inside :
    (cs : Conditions) (inside : Bool) (outside bound : List ℕ) (d : Condition) → readiness (conjunctive cs) inside outside bound ≡ is_ready d → ReadyInside outside bound cs d
ready_inside cs inside outside bound d e = of (inside_taken cs bound) (level cs true (plain_outside cs) bound) (sym (readiness_inside cs inside outside bound) ∙ e)
  where
    of : (t : Taken) → Level cs true (plain_outside cs) bound t → unless_missing (lack_inside cs outside bound t) (conjunctive (all_of t.order)) ≡ is_ready d →
        ReadyInside outside bound cs d
    of t l e =
        let m = nothing_missing (lack_inside cs outside bound t) (conjunctive (all_of t.order)) d e in
        let w = neither (waits_for outside bound (variables_of_conditions cs)) _ m.0 in
        let k = neither (first_lack cs true true (plain_outside cs) 0 t) (first_lack cs false true (plain_outside cs) 0 t) w.1 in
        record {
          order = t.order;
          last = t.bound;
          same = m.1;
          waits = w.0;
          run = subst (λ (r : Conditions). Run true (plain_outside cs) bound cs t.order t.bound r) (none_inside cs (plain_outside cs) 0 t l.settled k.0 k.1) l.run;
        }
