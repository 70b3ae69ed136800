use Rattle.std.proofs.Common.{subst}
use Rattle.std.proofs.lemmas.Result.{err_from_is_err_and}
use Rattle.defs_soar.specs.Goals.{goal_ids}
use Rattle.firing_records.specs.Recorded.{standing}
use Rattle.soar_record.specs.Recorded.{recorded as kept_in}
use Rattle.wave_learning.specs.Course.{learned, moment}
use Rattle.wave_learning.specs.Rising.{AreRising}
use Rattle.wave_learning.specs.Seen.{course_of, explained_seen, rule_made}
use Rattle.wave_learning.proofs.ExplainedLemmas.{known_grown, leaves_same, named_matched}
use Rattle.wave_learning.proofs.StepLemmas.{learned_on, named_keeps}
use Rattle.wave_learning.proofs.StopLemmas.{learned_ends}
use Rattle.wave_learning.proofs.rules.learn_rule.Goals as goal

pub join-requires-clause-goals : goal.join-requires-clause-goals
join-requires-clause-goals c = known_grown c.args.table.now c.named.new.table (goal_ids c.args.scene.now.before.now.goals.now) c.named.ensures.words.grown c.requires.goals

pub join-requires-clause-matched : goal.join-requires-clause-matched
join-requires-clause-matched c = named_matched (standing c.args.scene.now.before.now) c.args.rule c.in_ok-rule.rule _ c.in_ok-rule.ensures.answer.1 c.requires.matched

pub join-requires-clause-rising : goal.join-requires-clause-rising
join-requires-clause-rising c =
    let now = course_of c.args.table.now c.args.going.now in
    subst AreRising (named_keeps (rule_made c.args.rule).why now _ c.in_ok-rule.ensures.answer.0) c.requires.rising

pub returns-clause-answer : goal.returns-clause-answer
returns-clause-answer c =
    let sc = c.args.scene.now in
    let m = moment (standing sc.before.now) (kept_in sc.past.now) sc.on sc.local_negations in
    let e = explained_seen c.args.explained in
    let r = rule_made c.args.rule in
    let now = course_of c.args.table.now c.args.going.now in
    let next = course_of c.named.new.table c.named.new.going in
    leaves_same (learned m e r now) _ _ _ (learned_on m e r now (rule_made c.in_ok-rule.rule) next c.in_ok-rule.ensures.answer.0 c.in_ok-rule.ensures.answer.1) c.join.ensures

pub returns-in_err-rule-clause-answer : goal.returns-in_err-rule-clause-answer
returns-in_err-rule-clause-answer c =
    let sc = c.args.scene.now in
    let m = moment (standing sc.before.now) (kept_in sc.past.now) sc.on sc.local_negations in
    let now = course_of c.args.table.now c.args.going.now in
    let next = course_of c.named.new.table c.named.new.going in
    let p = err_from_is_err_and c.from_residual.result c.from_residual.ensures.1 in
    rw (p.1, p.2) (learned_ends m (explained_seen c.args.explained) (rule_made c.args.rule) now next next c.in_err-rule.field-0.0 c.in_err-rule.ensures.answer)
