use Rattle.std.proofs.Common.{◌≡◌, ◌∙◌, refl, sym, subst, Err, get_or, ℕ}
use Rattle.std.proofs.lemmas.Result.{err_from_is_err_and}
use Rattle.firing_records.specs.Recorded.{standing}
use Rattle.soar_fire.proofs.GrowthLemmas.{grown_twice, not_grown}
use Rattle.soar_record.specs.Recorded.{recorded as kept_in}
use Rattle.wave_learning.specs.Course.{from_number, moment, reached}
use Rattle.wave_learning.specs.Seen.{Leaves, course_of}
use Rattle.wave_learning.proofs.CourseLemmas.{next_lawful}
use Rattle.wave_learning.proofs.StepLemmas.{next_each}
use Rattle.wave_learning.proofs.StopLemmas.{each_stops}
use Rattle.wave_learning.proofs.rounds.learn_from_each.Goals as goal

pub numbers-init : goal.numbers-init
numbers-init c = record { lawful = c.requires.lawful; grown = not_grown _; rest = refl }

pub numbers-preserved : goal.numbers-preserved
numbers-preserved c =
    let sc = c.args.scene.now in
    let s = standing sc.before.now in
    let past = kept_in sc.past.now in
    let m = moment s past sc.on sc.local_negations in
    let numbers = c.args.numbers.now in
    let place = c.numbers.number-index in
    let n : ℕ = get_or numbers place 0 in
    let now = course_of c.numbers.table c.numbers.going in
    let next = course_of c.learn_from_number.new.table c.learn_from_number.new.going in
    let step : from_number m n now ≡ reached next = c.in_ok-learn_from_number.ensures.answer in
    record {
      lawful = next_lawful s past sc.on sc.local_negations now c.numbers.invariant.lawful n next step;
      grown = grown_twice _ _ _ c.numbers.invariant.grown c.learn_from_number.ensures.words;
      rest = sym (next_each m numbers place n 0 now next c.numbers-test.true refl step) ∙ c.numbers.invariant.rest;
    }

pub returns-in_err-learn_from_number-clause-answer : goal.returns-in_err-learn_from_number-clause-answer
returns-in_err-learn_from_number-clause-answer c =
    let sc = c.args.scene.now in
    let m = moment (standing sc.before.now) (kept_in sc.past.now) sc.on sc.local_negations in
    let numbers = c.args.numbers.now in
    let place = c.numbers.number-index in
    let n : ℕ = get_or numbers place 0 in
    let now = course_of c.numbers.table c.numbers.going in
    let next = course_of c.learn_from_number.new.table c.learn_from_number.new.going in
    let e = c.in_err-learn_from_number.field-0.0 in
    let leaves : Leaves (from_number m n now) next (Err e) = c.in_err-learn_from_number.ensures.answer in
    let p = err_from_is_err_and c.from_residual.result c.from_residual.ensures.1 in
    rw (p.1, p.2) (subst (λ o. Leaves o next (Err e)) c.numbers.invariant.rest (each_stops m numbers place n 0 now next next e c.numbers-test.true refl leaves))

pub returns-in_err-learn_from_number-clause-words : goal.returns-in_err-learn_from_number-clause-words
returns-in_err-learn_from_number-clause-words c = grown_twice _ _ _ c.numbers.invariant.grown c.learn_from_number.ensures.words
