use Rattle.std.proofs.Common.{◌≡◌, ◌∙◌, ◌+◌, ◌-◌, suc, ℕ, ap, sym, subst, Err, arith}
use Rattle.std.proofs.lemmas.Result.{err_from_is_err_and}
use Rattle.firing_records.specs.Recorded.{standing}
use Rattle.soar_fire.proofs.GrowthLemmas.{grown_twice, not_grown}
use Rattle.soar_record.specs.Recorded.{recorded as kept_in}
use Rattle.wave_learning.specs.Course.{moment, reached, round_of, rounds_of}
use Rattle.wave_learning.specs.Seen.{Leaves, course_of}
use Rattle.wave_learning.proofs.CourseLemmas.{round_lawful}
use Rattle.wave_learning.proofs.StepLemmas.{next_round}
use Rattle.wave_learning.proofs.StopLemmas.{round_stops}
use Rattle.wave_learning.proofs.rounds.learn_in_rounds.Goals as goal

pub rounds-init : goal.rounds-init
rounds-init c =
    let sc = c.args.scene.now in
    let m = moment (standing sc.before.now) (kept_in sc.past.now) sc.on sc.local_negations in
    let now = course_of c.args.table.now c.args.going.now in
    let all : c.args.rounds - 0 ≡ c.args.rounds = omega arith in
    record { lawful = c.requires.lawful; grown = not_grown _; rest = ap (λ (n : ℕ). rounds_of m n now) all }

pub rounds-preserved : goal.rounds-preserved
rounds-preserved c =
    let sc = c.args.scene.now in
    let s = standing sc.before.now in
    let past = kept_in sc.past.now in
    let m = moment s past sc.on sc.local_negations in
    let k = c.args.rounds - c.rounds.counter in
    let left = c.args.rounds - (c.rounds.counter + 1) in
    let one : k ≡ suc left = omega (arith, c.rounds-test.true) in
    let now = course_of c.rounds.table c.rounds.going in
    let next = course_of c.one_round.new.table c.one_round.new.going in
    let step : round_of m now ≡ reached next = c.in_ok-one_round.ensures.answer in
    record {
      lawful = round_lawful s past sc.on sc.local_negations now next c.rounds.invariant.lawful step;
      grown = grown_twice _ _ _ c.rounds.invariant.grown c.one_round.ensures.words;
      rest = sym (next_round m k left now next one step) ∙ c.rounds.invariant.rest;
    }

pub returns-in_err-one_round-clause-answer : goal.returns-in_err-one_round-clause-answer
returns-in_err-one_round-clause-answer c =
    let sc = c.args.scene.now in
    let m = moment (standing sc.before.now) (kept_in sc.past.now) sc.on sc.local_negations in
    let k = c.args.rounds - c.rounds.counter in
    let left = c.args.rounds - (c.rounds.counter + 1) in
    let one : k ≡ suc left = omega (arith, c.rounds-test.true) in
    let now = course_of c.rounds.table c.rounds.going in
    let next = course_of c.one_round.new.table c.one_round.new.going in
    let e = c.in_err-one_round.field-0.0 in
    let leaves : Leaves (round_of m now) next (Err e) = c.in_err-one_round.ensures.answer in
    let p = err_from_is_err_and c.from_residual.result c.from_residual.ensures.1 in
    rw (p.1, p.2) (subst (λ o. Leaves o next (Err e)) c.rounds.invariant.rest (round_stops m k left now next next e one leaves))

pub returns-in_err-one_round-clause-words : goal.returns-in_err-one_round-clause-words
returns-in_err-one_round-clause-words c = grown_twice _ _ _ c.rounds.invariant.grown c.one_round.ensures.words
