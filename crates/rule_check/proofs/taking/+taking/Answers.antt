use Rattle.std.proofs.Common.{◌≡◌, true, false, IfOk, IfNone, refl, sym, ap, subst, ◌∙◌}
use Rattle.soar_rule.specs.Conditions.{conjunctive, conditions, condition, all_of}
use Rattle.soar_rule.specs.MatchOrder.{is_ready, readiness, unless_missing}
use Rattle.rule_check.specs.Levels.{IsKnown, Lasts, lack_of, left_of, readiness_seen, is_taken, standing_at, taken_seen, with_left}
use Rattle.rule_check.specs.Marking.{AreMarked}
use Rattle.rule_check.specs.Members.{members}
use Rattle.rule_check.specs.Taking.{IsFound, LooksAt, ordered_from}
use Rattle.rule_check.proofs.FoundLemmas.{positive_seen, negated_seen, conjunctive_seen, first_of_two, inside_ready, notes, looks, finds, passes_step, passes_left, not_taken, noted_keeps, noted_level}
use Rattle.rule_check.proofs.MemberLemmas.{members_marked}
use Rattle.rule_check.proofs.RoundLemmas.{starts_all, starts_level, within_level, round_level, round_smaller, round_agrees, ends}
use Rattle.rule_check.proofs.taking.+taking.Goals as goal

-- ---- one condition

pub readiness-returns-in-Pos-clause-same : goal.readiness-returns-in-Pos-clause-same
readiness-returns-in-Pos-clause-same t c =
    subst (λ d. IfOk c.positive_readiness.result (λ found. readiness_seen found ≡ readiness d c.args.inside (members c.args.outside.now.marks) (members c.args.bound.now.marks)))
    (sym (ap condition c.in-Pos.is ∙ positive_seen c.in-Pos.pattern)) (c.positive_readiness.ensures.same (members c.args.outside.now.marks))

pub readiness-returns-in-Pos-clause-lasts : goal.readiness-returns-in-Pos-clause-lasts
readiness-returns-in-Pos-clause-lasts t c =
    subst (λ d. IfOk c.positive_readiness.result (λ found. Lasts d (members c.args.outside.now.marks) (members c.args.bound.now.marks) found))
    (sym (ap condition c.in-Pos.is ∙ positive_seen c.in-Pos.pattern)) (c.positive_readiness.ensures.lasts (members c.args.outside.now.marks))

pub readiness-returns-in-Neg-clause-same : goal.readiness-returns-in-Neg-clause-same
readiness-returns-in-Neg-clause-same t c =
    subst (λ d. IfOk c.negated_readiness.result (λ found. readiness_seen found ≡ readiness d c.args.inside (members c.args.outside.now.marks) (members c.args.bound.now.marks)))
    (sym (ap condition c.in-Neg.is ∙ negated_seen c.in-Neg.pattern)) (c.negated_readiness.ensures.same c.args.inside)

pub readiness-returns-in-Conj-clause-same : goal.readiness-returns-in-Conj-clause-same
readiness-returns-in-Conj-clause-same t c =
    subst (λ d. IfOk c.conjunctive_readiness.result (λ found. readiness_seen found ≡ readiness d c.args.inside (members c.args.outside.now.marks) (members c.args.bound.now.marks)))
    (sym (ap condition c.in-Conj.is ∙ conjunctive_seen c.in-Conj.conds ∙ ap (λ conds. conjunctive (conditions conds)) (sym c.as_slice.ensures))) (c.conjunctive_readiness.ensures.same c.args.inside)

pub conjunctive_readiness-returns-in-Some-or-clause-same : goal.conjunctive_readiness-returns-in-Some-or-clause-same
conjunctive_readiness-returns-in-Some-or-clause-same t c inside =
    let cs = conditions c.args.conds.now in
    let bound = members c.args.bound.now.marks in
    let order = c.in_ok-order.ensures bound (subst (λ b. AreMarked b.marks bound) (sym c.in_ok-copy.ensures) (members_marked c.args.bound.now.marks)) in
    sym
    (inside_ready cs inside (members c.args.outside.now.marks) bound c.in_ok-order.order.left (sym c.in_default.is ∙ c.awaited_in_conds.ensures) order.left
    ∙ ap (λ m. unless_missing m (conjunctive (all_of (ordered_from cs true bound).order))) (sym (first_of_two c.in_ok-order.order.left.positive c.in_ok-order.order.left.negation) ∙ sym c.or.ensures ∙ c.in-Some-or.is))

pub conjunctive_readiness-returns-in-None-clause-same : goal.conjunctive_readiness-returns-in-None-clause-same
conjunctive_readiness-returns-in-None-clause-same t c inside =
    let cs = conditions c.args.conds.now in
    let bound = members c.args.bound.now.marks in
    let order = c.in_ok-order.ensures bound (subst (λ b. AreMarked b.marks bound) (sym c.in_ok-copy.ensures) (members_marked c.args.bound.now.marks)) in
    sym
    (inside_ready cs inside (members c.args.outside.now.marks) bound c.in_ok-order.order.left (sym c.in_default.is ∙ c.awaited_in_conds.ensures) order.left
    ∙ ap (λ m. unless_missing m (conjunctive (all_of (ordered_from cs true bound).order))) (sym (first_of_two c.in_ok-order.order.left.positive c.in_ok-order.order.left.negation) ∙ sym c.or.ensures ∙ c.in-None.is)
    ∙ ap (λ conds. is_ready (conjunctive (all_of conds))) (sym order.taken)
    ∙ ap is_ready (sym (conjunctive_seen c.in_ok-order.order.conds)))

-- ---- a look

pub look_at-returns : goal.look_at-returns
look_at-returns t c =
    let cond = condition c.args.cond.now in
    let outside = members c.args.outside.now.marks in
    let bound = members c.args.level.now.bound.marks in
    let known = subst (IsKnown cond c.args.inside outside bound) (sym c.standing-standing.ensures) c.requires.known in
    let same : readiness_seen c.in_ok-found.found ≡ readiness cond c.args.inside outside bound = c.in_ok-found.ensures.same known in
    let free : is_taken (standing_at c.args.level.now.standings c.args.place) ≡ false = ap is_taken (sym c.standing-standing.ensures) ∙ not_taken c.standing-standing.result c.in_default.not-Taken in
    record {
      noted = notes cond c.args.inside outside c.args.place c.args.level.now c.note.new.self c.in_ok-found.found same (c.in_ok-found.ensures.lasts known) free c.requires.known c.note.ensures.standings;
      found =
          looks cond c.args.inside outside bound c.args.place (is_taken (standing_at c.args.level.now.standings c.args.place)) c.args.left.now c.note.new.left c.in_ok-found.found c.note.result same free c.note.ensures.ready
          (subst (λ b. IfNone c.note.result (c.note.new.left ≡ with_left c.args.left.now (left_of b c.args.place (lack_of (readiness_seen c.in_ok-found.found))))) c.is_positive.ensures c.note.ensures.left);
    }

pub look-returns-in-Some-clause-found : goal.look-returns-in-Some-clause-found
look-returns-in-Some-clause-found t c =
    let outside = members c.args.outside.now.marks in
    finds c.args.conds.now c.args.inside outside c.args.level.now c.conds.level c.conds.invariant.kept c.conds.place c.index-conds-place.result c.conds-test.true c.index-conds-place.is c.in-Some.ready c.conds.left c.look_at.new.left
    c.conds.invariant.step
    (subst (LooksAt (condition c.index-conds-place.result) c.args.inside outside (members c.conds.level.bound.marks) c.conds.place (is_taken (standing_at c.conds.level.standings c.conds.place)) c.conds.left c.look_at.new.left) c.in-Some.is c.in_ok-ready.ensures.found)

pub look-conds-preserved : goal.look-conds-preserved
look-conds-preserved t c =
    let outside = members c.args.outside.now.marks in
    let item = c.index-conds-place.result in
    let look = subst (LooksAt (condition item) c.args.inside outside (members c.conds.level.bound.marks) c.conds.place (is_taken (standing_at c.conds.level.standings c.conds.place)) c.conds.left c.look_at.new.left) c.in_default.is c.in_ok-ready.ensures.found in
    record {
      level = noted_level c.args.conds.now c.args.inside outside c.conds.place item c.conds.level c.look_at.new.level c.conds-test.true c.index-conds-place.is c.conds.invariant.level c.in_ok-ready.ensures.noted;
      kept = noted_keeps (condition item) c.args.inside outside c.conds.place c.args.level.now c.conds.level c.look_at.new.level c.conds.invariant.kept c.in_ok-ready.ensures.noted;
      step = passes_step c.args.conds.now c.args.inside outside c.args.level.now c.conds.level c.conds.invariant.kept c.conds.place item c.conds-test.true c.index-conds-place.is c.conds.left c.look_at.new.left c.conds.invariant.step look;
      left = passes_left c.args.conds.now c.args.inside outside c.args.level.now c.conds.level c.conds.invariant.kept c.conds.place item c.conds-test.true c.index-conds-place.is c.conds.left c.look_at.new.left c.conds.invariant.left look;
    }

-- ---- the rounds

pub take_all-rounds-init : goal.take_all-rounds-init
take_all-rounds-init t c = record {
  level = starts_level c.args.conds.now c.args.inside (members c.in_ok-outside.outside.marks) c.in_ok-level.level c.in_ok-level.ensures.standings;
  agree = λ variables marked.
      starts_all c.args.conds.now c.args.inside c.in_ok-level.level c.args.bound.marks variables c.in_ok-level.ensures.standings c.in_ok-level.ensures.conds (ap (λ b. b.marks) c.in_ok-level.ensures.bound) marked;
}

pub take_all-take-requires : goal.take_all-take-requires
take_all-take-requires t c =
    let outside = members c.in_ok-outside.outside.marks in
    within_level c.args.conds.now c.args.inside outside (taken_seen c.rounds.level) c.look.new.level c.in-Ready.place (condition c.in-Ready.cond)
    (subst (IsFound (conditions c.args.conds.now) c.args.inside outside (taken_seen c.rounds.level)) c.in-Ready.is c.in_ok-place.ensures.found) c.in_ok-place.ensures.level

pub take_all-rounds-smaller : goal.take_all-rounds-smaller
take_all-rounds-smaller t c =
    let outside = c.in_ok-outside.outside.marks in
    round_smaller c.args.conds.now c.args.inside outside c.in_ok-outside.ensures c.rounds.level c.look.new.level c.take.new.self c.in-Ready.place c.in-Ready.cond c.in_ok-place.ensures.kept
    (subst (IsFound (conditions c.args.conds.now) c.args.inside (members outside) (taken_seen c.rounds.level)) c.in-Ready.is c.in_ok-place.ensures.found) c.in_ok-place.ensures.level
    c.in_ok-take-in-Ready.ensures.standings c.in_ok-take-in-Ready.ensures.conds c.in_ok-take-in-Ready.ensures.bound

pub take_all-rounds-preserved : goal.take_all-rounds-preserved
take_all-rounds-preserved t c =
    let outside = c.in_ok-outside.outside.marks in
    let first = subst (IsFound (conditions c.args.conds.now) c.args.inside (members outside) (taken_seen c.rounds.level)) c.in-Ready.is c.in_ok-place.ensures.found in
    record {
      level =
          round_level c.args.conds.now c.args.inside outside c.in_ok-outside.ensures c.rounds.level c.look.new.level c.take.new.self c.in-Ready.place c.in-Ready.cond c.in_ok-place.ensures.kept first c.in_ok-place.ensures.level
          c.in_ok-take-in-Ready.ensures.standings c.in_ok-take-in-Ready.ensures.conds c.in_ok-take-in-Ready.ensures.bound;
      agree = λ variables marked.
          round_agrees c.args.conds.now c.args.inside outside c.in_ok-outside.ensures c.rounds.level c.look.new.level c.take.new.self c.in-Ready.place c.in-Ready.cond c.in_ok-place.ensures.kept first c.in_ok-place.ensures.level
          c.in_ok-take-in-Ready.ensures.standings c.in_ok-take-in-Ready.ensures.conds c.in_ok-take-in-Ready.ensures.bound
          (ordered_from (conditions c.args.conds.now) c.args.inside variables) (c.rounds.invariant.agree variables marked);
    }

pub take_all-returns-in-Nothing : goal.take_all-returns-in-Nothing
take_all-returns-in-Nothing t c variables marked =
    let outside = c.in_ok-outside.outside.marks in
    let none = subst (IsFound (conditions c.args.conds.now) c.args.inside (members outside) (taken_seen c.rounds.level)) c.in-Nothing.is c.in_ok-place.ensures.found in
    ends c.args.conds.now c.args.inside outside c.in_ok-outside.ensures c.rounds.level c.look.new.level c.in-Nothing.left c.in_ok-place.ensures.kept none.0 none.1 variables (c.rounds.invariant.agree variables marked)
    (record { conds = c.look.new.level.conds; bound = c.look.new.level.bound; left = c.in-Nothing.left }) refl refl refl
