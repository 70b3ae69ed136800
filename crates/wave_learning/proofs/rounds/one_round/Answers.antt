use Rattle.std.proofs.Common.{◌∙◌, sym, ap₂, subst, ℕ, List}
use Rattle.firing_records.specs.Recorded.{standing}
use Rattle.soar_record.specs.Recorded.{recorded as kept_in}
use Rattle.wave_learning.specs.Course.{Course, from_each, moment, round_of}
use Rattle.wave_learning.specs.Lawful.{IsLawfulCourse}
use Rattle.wave_learning.specs.Seen.{course_of}
use Rattle.wave_learning.proofs.CourseLemmas.{without_next}
use Rattle.wave_learning.proofs.ExplainedLemmas.{leaves_same}
use Rattle.wave_learning.proofs.rounds.one_round.Goals as goal

pub learn_from_each-requires-clause-lawful : goal.learn_from_each-requires-clause-lawful
learn_from_each-requires-clause-lawful c =
    let sc = c.args.scene.now in
    let s = standing sc.before.now in
    let past = kept_in sc.past.now in
    let words = c.args.table.now in
    let start = course_of words c.args.going.now in
    subst (IsLawfulCourse s past sc.on sc.local_negations) (sym (c.take_next-numbers.ensures.none words)) (without_next s past sc.on sc.local_negations start c.requires.lawful)

pub returns-clause-answer : goal.returns-clause-answer
returns-clause-answer c =
    let sc = c.args.scene.now in
    let m = moment (standing sc.before.now) (kept_in sc.past.now) sc.on sc.local_negations in
    let words = c.args.table.now in
    let start = course_of words c.args.going.now in
    let numbers = c.as_slice.ensures ∙ c.take_next-numbers.ensures.next in
    leaves_same (round_of m start) _ _ _ (sym (ap₂ (λ (ns : List ℕ) (d : Course). from_each m ns d) numbers (c.take_next-numbers.ensures.none words))) c.learn_from_each.ensures.answer
