use Rattle.std.proofs.Common.{subst}
use Rattle.firing_records.specs.Recorded.{standing}
use Rattle.soar_record.specs.Recorded.{recorded as kept_in}
use Rattle.wave_learning.specs.Course.{from_number, moment}
use Rattle.wave_learning.specs.Seen.{TellsExplained, course_of}
use Rattle.wave_learning.proofs.ExplainedLemmas.{leaves_same}
use Rattle.wave_learning.proofs.rounds.learn_from_number.Goals as goal

pub learn_from-requires-clause-explained : goal.learn_from-requires-clause-explained
learn_from-requires-clause-explained c =
    let sc = c.args.scene.now in
    let now = course_of c.args.table.now c.args.going.now in
    (subst (TellsExplained (standing sc.before.now) (kept_in sc.past.now) sc.on sc.local_negations c.args.number now) c.in-Some.is c.in_ok-found.ensures).1

pub returns-in-Some-clause-answer : goal.returns-in-Some-clause-answer
returns-in-Some-clause-answer c =
    let sc = c.args.scene.now in
    let s = standing sc.before.now in
    let past = kept_in sc.past.now in
    let now = course_of c.args.table.now c.args.going.now in
    let told = subst (TellsExplained s past sc.on sc.local_negations c.args.number now) c.in-Some.is c.in_ok-found.ensures in
    leaves_same (from_number (moment s past sc.on sc.local_negations) c.args.number now) _ _ _ told.0 c.learn_from.ensures.answer
