use Rattle.std.proofs.Common.{Option, ap, subst}
use Rattle.std.specs.Option.{option_map}
use Rattle.soar_rule.specs.Productions.{production_seen}
use Rattle.soar_rule.specs.declared.production.Production.{Production}
use Rattle.defs_soar.specs.CandidateOf.{as_justified}
use Rattle.defs_soar.specs.History.{chain_seen}
use Rattle.firing_records.specs.Recorded.{standing}
use Rattle.soar_record.specs.Recorded.{recorded as kept_in}
use Rattle.wave_learning.specs.Course.{by_learned_of, moment}
use Rattle.wave_learning.specs.Lawful.{MatchesAs}
use Rattle.wave_learning.specs.Seen.{course_of, explained_seen}
use Rattle.wave_learning.proofs.ExplainedLemmas.{leaves_same}
use Rattle.wave_learning.proofs.teaching.learn_justified.Goals as goal

pub justify-requires-clause-matches : goal.justify-requires-clause-matches
justify-requires-clause-matches c =
    subst (λ (o : Option Production). MatchesAs (standing c.args.scene.now.before.now) c.args.table.now (chain_seen c.args.explained.chain) (as_justified (option_map production_seen o) c.args.why)) c.in-Some.is c.requires.matches

pub returns-in-Some-clause-answer : goal.returns-in-Some-clause-answer
returns-in-Some-clause-answer c =
    let sc = c.args.scene.now in
    let m = moment (standing sc.before.now) (kept_in sc.past.now) sc.on sc.local_negations in
    let e = explained_seen c.args.explained in
    let now = course_of c.args.table.now c.args.going.now in
    let by = λ (o : Option Production). by_learned_of m e now (as_justified (option_map production_seen o) c.args.why) in
    leaves_same (by c.args.found) _ _ _ (ap by c.in-Some.is) c.justify.ensures.answer

pub returns-in-None-clause-answer : goal.returns-in-None-clause-answer
returns-in-None-clause-answer c =
    let sc = c.args.scene.now in
    let m = moment (standing sc.before.now) (kept_in sc.past.now) sc.on sc.local_negations in
    let e = explained_seen c.args.explained in
    let now = course_of c.args.table.now c.args.going.now in
    let by = λ (o : Option Production). by_learned_of m e now (as_justified (option_map production_seen o) c.args.why) in
    leaves_same (by c.args.found) _ _ _ (ap by c.in-None.is) (c.note.ensures c.args.table.now)
