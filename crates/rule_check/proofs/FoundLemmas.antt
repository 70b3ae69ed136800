-- What a look at one condition finds, and a look through a list.
use Rattle.std.proofs.Common.{◌≡◌, ℕ, zero, suc, ◌+◌, ◌<◌, Bool, true, false, ◌==◌, List, [], ◌∷◌, map, length, drop, get_or, set, refl, sym, ap, subst, ◌∙◌, arith}
use Rattle.std.proofs.Math.ListN.{length-set}
use Rattle.std.proofs.lemmas.Bool.{eqb-true, eqb-false}
use Rattle.std.proofs.lemmas.Grind.{get_or-set_at}
use Rattle.std.proofs.lemmas.List.{get_or-set_other, set-get_or}
use Rattle.std.specs.Option.{option_or}
use Rattle.std.specs.Prelude.{Option, Some, None, IfNone, option_map}
use Rattle.soar_rule.specs.declared.cond.Cond.{Cond, fold-roll-Cond}
use Rattle.soar_rule.specs.declared.cond.Cond.TheOpen as open_form
use Rattle.soar_rule.specs.declared.cond.Cond.TheVariants.{Pos, Neg, Conj, rolls-Pos, rolls-Neg, rolls-Conj}
use Rattle.soar_rule.specs.declared.cond.Pattern.{Pattern}
use Rattle.soar_rule.specs.Conditions.{Condition, positive, negated, conjunctive, Conditions, condition_step, condition, conditions, all_of}
use Rattle.soar_rule.specs.MatchOrder.{or_else, waits_for, Readiness, is_ready, lacks, is_unlinked, unless_missing, is_positive, count_of, readiness, one_taken, first_lack}
use Rattle.soar_rule.specs.Variables.{is_among, plain_outside, variables_of_conditions}
use Rattle.rule_check.specs.declared.level.Left.{Left}
use Rattle.rule_check.specs.declared.level.Level.{Level}
use Rattle.rule_check.specs.declared.level.Standing.{Standing}
use Rattle.rule_check.specs.declared.level.Standing.TheVariants as standing
use Rattle.rule_check.specs.declared.readiness.Readiness.{Readiness as Found}
use Rattle.rule_check.specs.declared.readiness.Readiness.TheVariants as found
use Rattle.rule_check.specs.Levels.{readiness_seen, Lasts, IsKnown, IsLevel, is_taken, standing_at, taken_seen, left_from, with_left, ready_of, lack_of, left_of, noted}
use Rattle.rule_check.specs.Members.{members}
use Rattle.rule_check.specs.Taking.{IsNoted, left_here, LooksAt, KeepsTaken, IsFirstReady, ordered_from}
use Rattle.rule_check.proofs.LevelLemmas.{taken_place}
use Rattle.rule_check.proofs.LookLemmas.{left_item, passed_item, taken_item, with_assoc, ready_binds, binds_within, count_all}

-- ---- a condition by its kind

pub positive_seen : (p : Pattern) → condition (Pos p) ≡ positive p
positive_seen p = ap condition (sym (rolls-Pos p)) ∙ fold-roll-Cond Condition condition_step (open_form.Pos p)

pub negated_seen : (p : Pattern) → condition (Neg p) ≡ negated p
negated_seen p = ap condition (sym (rolls-Neg p)) ∙ fold-roll-Cond Condition condition_step (open_form.Neg p)

pub conjunctive_seen : (conds : List Cond) → condition (Conj conds) ≡ conjunctive (conditions conds)
conjunctive_seen conds = ap condition (sym (rolls-Conj conds)) ∙ fold-roll-Cond Condition condition_step (open_form.Conj conds)

-- ---- a conjunctive negation

pub first_of_two : {A : Type 0} (a b : Option A) → option_or a b ≡ or_else a b
first_of_two (Some x) b = refl
first_of_two None b = refl

-- where it waits for nothing, its readiness is that of its inside
pub inside_ready : (cs : Conditions) (inside : Bool) (outside bound : List ℕ) (left : Left) → None ≡ waits_for outside bound (variables_of_conditions cs) → left ≡ left_from cs true (plain_outside cs) 0 (ordered_from cs true bound)
    → readiness (conjunctive cs) inside outside bound ≡ unless_missing (or_else left.positive left.negation) (conjunctive (all_of (ordered_from cs true bound).order))
inside_ready cs inside outside bound left none same =
    let t = ordered_from cs true bound in
    ap (λ w. unless_missing (or_else w (or_else (first_lack cs true true (plain_outside cs) 0 t) (first_lack cs false true (plain_outside cs) 0 t))) (conjunctive (all_of t.order))) (sym none)
    ∙ ap (λ (l : Left). unless_missing (or_else l.positive l.negation) (conjunctive (all_of t.order))) (sym same)

-- ---- a look at one condition

pub not_taken : (s : Standing) → (s ≡ standing.Taken → ⊥) → is_taken s ≡ false
not_taken standing.Open other = refl
not_taken standing.Taken other = absurd (other refl)
not_taken (standing.Lacks v) other = refl

none_ready : (r : Readiness) (c : Condition) → Some c ≡ ready_of r → r ≡ is_ready c
none_ready (is_ready d) c same = let e : Some c ≡ Some d = same in cc
none_ready (lacks v) c same = let e : Some c ≡ None = same in cc
none_ready is_unlinked c same = let e : Some c ≡ None = same in cc

pub notes : (c : Condition) (inside : Bool) (outside : List ℕ) (place : ℕ) (old new : Level) (f : Found) → readiness_seen f ≡ readiness c inside outside (members old.bound.marks) → Lasts c outside (members old.bound.marks) f
    → is_taken (standing_at old.standings place) ≡ false → IsKnown c inside outside (members old.bound.marks) (standing_at old.standings place) → new ≡ record old { standings = noted old.standings place f }
    → IsNoted c inside outside place old new
notes c inside outside place old new f same lasts free known changed = by f same lasts changed
  where
    as_before : new ≡ old → IsNoted c inside outside place old new
    as_before e = record {
      standing = standing_at old.standings place;
      changed = e ∙ ap (λ ss. record old { standings = ss }) (sym (set-get_or old.standings place standing.Open));
      taken = refl;
      known = known;
    }

    by : (f : Found) → readiness_seen f ≡ readiness c inside outside (members old.bound.marks) → Lasts c outside (members old.bound.marks) f → new ≡ record old { standings = noted old.standings place f } → IsNoted c inside outside place old new
    by (found.Ready d) same lasts e = as_before e
    by (found.Waits v) same lasts e = as_before e
    by (found.Lacks v) same lasts e = record { standing = standing.Lacks v; changed = e; taken = sym free; known = (sym same, lasts) }
    by found.Unlinked same lasts e = as_before e

pub looks : (c : Condition) (inside : Bool) (outside bound : List ℕ) (place : ℕ) (taken : Bool) (left after : Left) (f : Found) (ready : Option Cond) → readiness_seen f ≡ readiness c inside outside bound → taken ≡ false
    → option_map condition ready ≡ ready_of (readiness_seen f) → IfNone ready (after ≡ with_left left (left_of (is_positive c) place (lack_of (readiness_seen f))))
    → LooksAt c inside outside bound place taken left after ready
looks c inside outside bound place taken left after f (Some d) same free is rest = (free, sym same ∙ none_ready (readiness_seen f) (condition d) is)
looks c inside outside bound place taken left after f None same free is rest = (
  λ open_now. ap ready_of (sym same) ∙ sym is,
  rest
      ∙ ap (λ r. with_left left (left_of (is_positive c) place (lack_of r))) same
      ∙ ap (λ b. with_left left (left_here b (is_positive c) place (readiness c inside outside bound))) (sym free),
)

-- ---- a look through a list, at the condition at a place

module _ (conds : List Cond) (inside : Bool) (outside : List ℕ) (first now : Level) (kept : KeepsTaken first now) (place : ℕ) (c : Cond) (within : place < length conds) (at : c ≡ get_or conds place c) where
  taken_now : is_taken (standing_at now.standings place) ≡ is_among (taken_seen first).places place
  taken_now = sym (taken_place now.standings place) ∙ ap (λ marks. is_among (members marks) place) kept.taken

  ready_now : readiness (condition c) inside outside (members now.bound.marks) ≡ readiness (condition c) inside outside (members first.bound.marks)
  ready_now = ap (λ b. readiness (condition c) inside outside (members b.marks)) kept.bound

  pub finds : (d : Cond) (left after : Left) → one_taken (conditions (drop place conds)) inside outside place (taken_seen first) ≡ one_taken (conditions conds) inside outside 0 (taken_seen first)
      → LooksAt (condition c) inside outside (members now.bound.marks) place (is_taken (standing_at now.standings place)) left after (Some d) → IsFirstReady (conditions conds) inside outside (taken_seen first) place (condition d)
  finds d left after step look =
      let free : is_among (taken_seen first).places place ≡ false = sym taken_now ∙ look.0 in
      let ready : readiness (condition c) inside outside (members first.bound.marks) ≡ is_ready (condition d) = sym ready_now ∙ look.1 in
      let counted : count_of (conditions conds) ≡ length conds = count_all conds in
      record {
        step = sym step ∙ taken_item conds inside outside (taken_seen first) place c within at (condition d) free ready;
        free = free;
        within = omega (arith, counted, within);
        bound = λ v among. binds_within conds place c within at v (ap (λ vs. is_among vs v) (sym (ready_binds (condition c) (condition d) inside outside (members first.bound.marks) ready)) ∙ among);
      }

  pub passes_step : (left after : Left) → one_taken (conditions (drop place conds)) inside outside place (taken_seen first) ≡ one_taken (conditions conds) inside outside 0 (taken_seen first)
      → LooksAt (condition c) inside outside (members now.bound.marks) place (is_taken (standing_at now.standings place)) left after None
      → one_taken (conditions (drop (place + 1) conds)) inside outside (place + 1) (taken_seen first) ≡ one_taken (conditions conds) inside outside 0 (taken_seen first)
  passes_step left after step look =
      sym (passed_item conds inside outside (taken_seen first) place c within at (λ free. ap ready_of (sym ready_now) ∙ look.0 (taken_now ∙ free))) ∙ step

  pub passes_left : (left after : Left) → with_left left (left_from (conditions (drop place conds)) inside outside place (taken_seen first)) ≡ left_from (conditions conds) inside outside 0 (taken_seen first)
      → LooksAt (condition c) inside outside (members now.bound.marks) place (is_taken (standing_at now.standings place)) left after None
      → with_left after (left_from (conditions (drop (place + 1) conds)) inside outside (place + 1) (taken_seen first)) ≡ left_from (conditions conds) inside outside 0 (taken_seen first)
  passes_left left after lefts look =
      let rest = left_from (conditions (drop (place + 1) conds)) inside outside (place + 1) (taken_seen first) in
      let here = left_here (is_among (taken_seen first).places place) (is_positive (condition c)) place (readiness (condition c) inside outside (members first.bound.marks)) in
      ap (λ l. with_left l rest)
      (look.1
      ∙ ap (λ b. with_left left (left_here b (is_positive (condition c)) place (readiness (condition c) inside outside (members now.bound.marks)))) taken_now
      ∙ ap (λ r. with_left left (left_here (is_among (taken_seen first).places place) (is_positive (condition c)) place r)) ready_now)
      ∙ with_assoc left here rest
      ∙ ap (with_left left) (sym (left_item conds inside outside (taken_seen first) place c within at))
      ∙ lefts

-- ---- what is known afterwards

map_set : (standings : List Standing) (place : ℕ) (s : Standing) → is_taken s ≡ is_taken (standing_at standings place) → map is_taken (set standings place s) ≡ map is_taken standings
map_set [] place s same = refl
map_set (r ∷ standings) zero s same = ap (λ b. b ∷ map is_taken standings) same
map_set (r ∷ standings) (suc place) s same = ap (λ bs. is_taken r ∷ bs) (map_set standings place s same)

pub noted_keeps : (c : Condition) (inside : Bool) (outside : List ℕ) (place : ℕ) (first old new : Level) → KeepsTaken first old → IsNoted c inside outside place old new → KeepsTaken first new
noted_keeps c inside outside place first old new kept is = record {
  taken = ap (λ l. map is_taken l.standings) is.changed ∙ map_set old.standings place is.standing is.taken ∙ kept.taken;
  conds = ap (λ l. l.conds) is.changed ∙ kept.conds;
  bound = ap (λ l. l.bound) is.changed ∙ kept.bound;
}

same_item : {A : Type 0} (xs : List A) (i : ℕ) (x y : A) → i < length xs → x ≡ get_or xs i x → y ≡ get_or xs i y → x ≡ y
same_item [] i x y within at also = absurd (omega arith)
same_item (z ∷ xs) zero x y within at also = at ∙ sym also
same_item (z ∷ xs) (suc i) x y within at also = same_item xs i x y (omega arith) at also

pub noted_level : (conds : List Cond) (inside : Bool) (outside : List ℕ) (place : ℕ) (c : Cond) (old new : Level) → place < length conds → c ≡ get_or conds place c
    → IsLevel conds inside outside old → IsNoted (condition c) inside outside place old new → IsLevel conds inside outside new
noted_level conds inside outside place c old new within at level is = record {
  whole = ap (λ l. length l.standings) is.changed ∙ length-set old.standings place is.standing ∙ level.whole;
  known = λ other d inner here.
      subst (λ l. IsKnown (condition d) inside outside (members l.bound.marks) (standing_at l.standings other)) (sym is.changed) (by other d inner here (other == place) refl);
}
  where
    by : (other : ℕ) (d : Cond) → other < length conds → d ≡ get_or conds other d → (b : Bool) → (other == place) ≡ b → IsKnown (condition d) inside outside (members old.bound.marks) (standing_at (set old.standings place is.standing) other)
    by other d inner here true e =
        let same_place : other ≡ place = eqb-true other place e in
        let whole = level.whole in
        let one : c ≡ d = same_item conds place c d within at (subst (λ n. d ≡ get_or conds n d) same_place here) in
        subst (IsKnown (condition d) inside outside (members old.bound.marks)) (sym (get_or-set_at old.standings place other is.standing standing.Open same_place (omega (arith, whole, within))))
        (subst (λ x. IsKnown (condition x) inside outside (members old.bound.marks) is.standing) one is.known)
    by other d inner here false e =
        subst (IsKnown (condition d) inside outside (members old.bound.marks)) (sym (get_or-set_other old.standings place other is.standing standing.Open (eqb-false other place e))) (level.known other d inner here)
