-- A condition that is ready stays ready as it then is, and a list that is in order stays in order.
use Rattle.std.proofs.Common.{◌≡◌, ℕ, Bool, true, false, List, Option, None, refl, sym, ◌∙◌, ap, subst}
use Rattle.soar_rule.specs.declared.cond.Pattern.{Pattern}
use Rattle.soar_rule.specs.Conditions.{Condition, positive, negated, conjunctive, Conditions, all_of}
use Rattle.soar_rule.specs.MatchOrder.{is_ready, Taken, nothing_taken, or_else, waits_for, missing_in, unless_missing, readiness, first_lack}
use Rattle.soar_rule.specs.Variables.{variables_of_pattern, variables_of_conditions, plain_outside}
use Rattle.rule_laws.proofs.EachLaws.{Each, of_each, each_taken_out}
use Rattle.rule_laws.proofs.KeptLaws.{plain_kept, variables_kept}
use Rattle.rule_laws.proofs.LackLaws.{inside_taken, lack_inside, readiness_inside}
use Rattle.rule_laws.proofs.NoneLeftLaws.{no_lack}
use Rattle.rule_laws.proofs.PlaceLaws.{InOrder, InPlace, all_in_place}
use Rattle.rule_laws.proofs.ReadyLaws.{ReadyNegated, ReadyInside, ready_positive, ready_negated, ready_inside}
use Rattle.rule_laws.proofs.RunLaws.{Run, ended, going}
use Rattle.rule_laws.proofs.WaitLaws.{SameVariables, waits_alike}
use Rattle.rule_laws.proofs.WholeLaws.{is_whole}

-- as it is ready, it is ready once more, with the same variables outside
abbrev StaysReady : Condition → Type 0
StaysReady c =
    (inside : Bool) (outside other bound : List ℕ) (d : Condition) → SameVariables outside other → readiness c inside outside bound ≡ is_ready d →
    readiness d inside other bound ≡ is_ready d

run_stays :
    {inside : Bool} {outside bound last : List ℕ} {cs left : Conditions} {order : List Condition} (other : List ℕ) → SameVariables outside other →
    Run inside outside bound cs order last left → Each StaysReady cs → InOrder inside other bound order
run_stays other s ended k = tt
run_stays {inside} {outside} other s (going {bound = bound} c d o r more) k =
    let m = each_taken_out StaysReady o k in (m.0 inside outside other bound d s r, run_stays other s more m.1)

positive_stays : (p : Pattern) → StaysReady (positive p)
positive_stays p inside outside other bound d s e = ap (λ x. readiness x inside other bound) (ready_positive p inside outside bound d e).same ∙ e

negated_stays : (p : Pattern) → StaysReady (negated p)
negated_stays p inside outside other bound d s e = of (ready_negated p inside outside bound d e)
  where
    ready : (waits missing : Option ℕ) → waits ≡ None → missing ≡ None → unless_missing (or_else waits missing) (negated p) ≡ is_ready (negated p)
    ready waits missing w m = cc

    of : ReadyNegated outside bound p d → readiness d inside other bound ≡ is_ready d
    of r =
        subst (λ (x : Condition). readiness x inside other bound ≡ is_ready x) (sym r.same)
        (ready (waits_for other bound (variables_of_pattern p)) (missing_in bound p)
        (waits_alike outside other bound (variables_of_pattern p) (variables_of_pattern p) s (λ v. refl) r.waits) r.known)

-- the inside in order once more: nothing is lacking, and it stays as it is
module _ (order : List Condition) (other bound : List ℕ) (waits : waits_for other bound (variables_of_conditions (all_of order)) ≡ None) where
  abbrev ds : Conditions
  ds = all_of order

  no_lack_inside : (t : Taken) → InPlace ds (nothing_taken bound) order t → lack_inside ds other bound t ≡ None
  no_lack_inside t p =
      none_of (waits_for other bound (variables_of_conditions ds)) (first_lack ds true true (plain_outside ds) 0 t) (first_lack ds false true (plain_outside ds) 0 t)
      waits (no_lack ds true true (plain_outside ds) 0 t p.left) (no_lack ds false true (plain_outside ds) 0 t p.left)
    where
      none_of : (a b c : Option ℕ) → a ≡ None → b ≡ None → c ≡ None → or_else a (or_else b c) ≡ None
      none_of a b c e f g = cc

  pub inside_in_order : (inside : Bool) → InOrder true (plain_outside ds) bound order → readiness (conjunctive ds) inside other bound ≡ is_ready (conjunctive ds)
  inside_in_order inside o = readiness_inside ds inside other bound ∙ of (inside_taken ds bound) (all_in_place order true (plain_outside ds) bound o)
    where
      of : (t : Taken) → InPlace ds (nothing_taken bound) order t → unless_missing (lack_inside ds other bound t) (conjunctive (all_of t.order)) ≡ is_ready (conjunctive ds)
      of t p = ap (λ o. unless_missing o (conjunctive (all_of t.order))) (no_lack_inside t p) ∙ ap (λ cs. is_ready (conjunctive (all_of cs))) p.order

inside_stays : (cs : Conditions) → Each StaysReady cs → StaysReady (conjunctive cs)
inside_stays cs k inside outside other bound d s e = of (ready_inside cs inside outside bound d e)
  where
    of : ReadyInside outside bound cs d → readiness d inside other bound ≡ is_ready d
    of r =
        let same = is_whole r.run in
        let waits = waits_alike outside other bound (variables_of_conditions cs) (variables_of_conditions (all_of r.order)) s (variables_kept same) r.waits in
        subst (λ (x : Condition). readiness x inside other bound ≡ is_ready x) (sym r.same)
        (inside_in_order r.order other bound waits inside (run_stays (plain_outside (all_of r.order)) (plain_kept same) r.run k))

-- what was taken in turn is in order
pub in_order :
    {inside : Bool} {outside bound last : List ℕ} {cs left : Conditions} {order : List Condition} (other : List ℕ) → SameVariables outside other →
    Run inside outside bound cs order last left → InOrder inside other bound order
in_order {cs = cs} other s r = run_stays other s r (of_each StaysReady positive_stays negated_stays inside_stays cs)
