use Rattle.std.proofs.Common.{◌∙◌, sym, ap, subst, ℕ, List, length, Err}
use Rattle.std.proofs.lemmas.Result.{err_from_is_err_and}
use Rattle.firing_records.specs.Recorded.{standing}
use Rattle.soar_record.specs.Recorded.{recorded as kept_in}
use Rattle.wave_learning.specs.Course.{moment, rounds_of}
use Rattle.wave_learning.specs.Seen.{Leaves, course_of}
use Rattle.wave_learning.proofs.LearnLemmas.{learns_all, numbers_of, starts, stops_all}
use Rattle.wave_learning.proofs.learning.learn.Goals as goal

pub learn_in_rounds-requires-clause-lawful : goal.learn_in_rounds-requires-clause-lawful
learn_in_rounds-requires-clause-lawful c =
    starts c.args.table.now (standing c.args.before.now) (kept_in c.args.past.now) c.args.on c.args.local_negations c.args.hand c.in_ok-next.next (c.in_ok-next.ensures.numbers ∙ ap numbers_of c.as_slice.ensures) c.in_ok-next.ensures.rising c.requires

pub returns-clause-learns : goal.returns-clause-learns
returns-clause-learns c =
    let words = c.args.table.now in
    let s = standing c.args.before.now in
    let past = kept_in c.args.past.now in
    let hand = c.args.hand in
    let next : List ℕ = c.in_ok-next.next in
    let start = course_of words (record { hand = hand; next = next; place = 0 }) in
    let all = ap (λ (n : ℕ). rounds_of (moment s past c.args.on c.args.local_negations) n start) (sym c.len-goals.ensures) ∙ c.in_ok-learn_in_rounds.ensures.answer in
    learns_all words s past c.args.on c.args.local_negations hand next (c.in_ok-next.ensures.numbers ∙ ap numbers_of c.as_slice.ensures) c.in_ok-next.ensures.rising c.learn_in_rounds.new.table c.learn_in_rounds.new.going all

pub returns-in_err-learn_in_rounds-clause-learns : goal.returns-in_err-learn_in_rounds-clause-learns
returns-in_err-learn_in_rounds-clause-learns c =
    let words = c.args.table.now in
    let s = standing c.args.before.now in
    let past = kept_in c.args.past.now in
    let hand = c.args.hand in
    let next : List ℕ = c.in_ok-next.next in
    let start = course_of words (record { hand = hand; next = next; place = 0 }) in
    let after = course_of c.learn_in_rounds.new.table c.learn_in_rounds.new.going in
    let e = c.in_err-learn_in_rounds.field-0.0 in
    let all : Leaves (rounds_of (moment s past c.args.on c.args.local_negations) (length s.goals) start) after (Err e) =
    subst (λ (n : ℕ). Leaves (rounds_of (moment s past c.args.on c.args.local_negations) n start) after (Err e)) c.len-goals.ensures c.in_err-learn_in_rounds.ensures.answer in
    let p = err_from_is_err_and c.from_residual-in_err-learn_in_rounds.result c.from_residual-in_err-learn_in_rounds.ensures.1 in
    rw (p.1, p.2) (stops_all words s past c.args.on c.args.local_negations hand next (c.in_ok-next.ensures.numbers ∙ ap numbers_of c.as_slice.ensures) c.in_ok-next.ensures.rising c.learn_in_rounds.new.table after e all)
