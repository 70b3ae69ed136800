use Rattle.std.proofs.lemmas.Result.{err_from_is_err_and}
use Rattle.firing_records.specs.Recorded.{standing}
use Rattle.soar_record.specs.Recorded.{recorded as kept_in}
use Rattle.wave_learning.specs.Course.{moment}
use Rattle.wave_learning.specs.Seen.{course_of, explained_seen, rule_made}
use Rattle.wave_learning.proofs.JoinLemmas.{joins}
use Rattle.wave_learning.proofs.StepLemmas.{joins_on}
use Rattle.wave_learning.proofs.StopLemmas.{firing_ends, rule_ends}
use Rattle.wave_learning.proofs.joining.join.Goals as goal

pub returns : goal.returns
returns c =
    let sc = c.args.scene.now in
    let m = moment (standing sc.before.now) (kept_in sc.past.now) sc.on sc.local_negations in
    let words = c.args.table.now in
    let e = c.args.explained in
    let r = rule_made c.args.rule in
    let before = c.args.going.now in
    let after = c.take_over.new.going in
    joins_on m (explained_seen e) r (course_of words before) (course_of words after) c.in_ok-number.ensures.answer c.in_ok-last.ensures.answer
    (joins m words e r before after c.in_ok-number.number c.in_ok-last.last c.in_ok-joining.joining c.in_ok-number.ensures.next c.in_ok-last.ensures.next c.in_ok-joining.ensures
    (record {
      program = c.in_ok-take_over.ensures.program;
      last_is = c.in_ok-take_over.ensures.last;
      learned = c.in_ok-take_over.ensures.learned;
      entries = c.in_ok-take_over.ensures.entries;
      next = c.in_ok-take_over.ensures.next;
    }))

pub returns-in_err-number : goal.returns-in_err-number
returns-in_err-number c =
    let sc = c.args.scene.now in
    let m = moment (standing sc.before.now) (kept_in sc.past.now) sc.on sc.local_negations in
    let now = course_of c.args.table.now c.args.going.now in
    let p = err_from_is_err_and c.from_residual.result c.from_residual.ensures.1 in
    rw (p.1, p.2) (rule_ends m (explained_seen c.args.explained) (rule_made c.args.rule) now now c.in_err-number.field-0.0 c.in_err-number.ensures.answer)

pub returns-in_err-last : goal.returns-in_err-last
returns-in_err-last c =
    let sc = c.args.scene.now in
    let m = moment (standing sc.before.now) (kept_in sc.past.now) sc.on sc.local_negations in
    let now = course_of c.args.table.now c.args.going.now in
    let p = err_from_is_err_and c.from_residual-in_err-last.result c.from_residual-in_err-last.ensures.1 in
    rw (p.1, p.2) (firing_ends m (explained_seen c.args.explained) (rule_made c.args.rule) now now c.in_err-last.field-0.0 c.in_ok-number.ensures.answer c.in_err-last.ensures.answer)
