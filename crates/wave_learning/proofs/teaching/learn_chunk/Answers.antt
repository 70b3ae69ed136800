use Rattle.std.proofs.Common.{sym, ap}
use Rattle.soar_rule.specs.Productions.{production_seen}
use Rattle.defs_soar.specs.ConditionOrder.{ordered_grounds}
use Rattle.firing_records.specs.Recorded.{standing}
use Rattle.soar_record.specs.Recorded.{recorded as kept_in}
use Rattle.wave_learning.specs.Course.{NewRuleOf, chunk_made, learned, moment}
use Rattle.wave_learning.specs.Seen.{course_of, explained_seen}
use Rattle.wave_learning.proofs.ExplainedLemmas.{leaves_same, rule_matched}
use Rattle.wave_learning.proofs.teaching.learn_chunk.Goals as goal

pub learn_rule-requires-clause-matched : goal.learn_rule-requires-clause-matched
learn_rule-requires-clause-matched c =
    let e = explained_seen c.args.explained in
    rule_matched (standing c.args.scene.now.before.now) c.in_ok-rule.rule (chunk_made e (ordered_grounds c.args.table.now e.chain.grounds) (production_seen c.args.production)) c.in_ok-rule.ensures c.requires.matches

pub returns-clause-answer : goal.returns-clause-answer
returns-clause-answer c =
    let sc = c.args.scene.now in
    let m = moment (standing sc.before.now) (kept_in sc.past.now) sc.on sc.local_negations in
    let e = explained_seen c.args.explained in
    let now = course_of c.args.table.now c.args.going.now in
    leaves_same (learned m e (chunk_made e (ordered_grounds now.words e.chain.grounds) (production_seen c.args.production)) now) _ _ _ (ap (λ (r : NewRuleOf). learned m e r now) (sym c.in_ok-rule.ensures)) c.learn_rule.ensures.answer
