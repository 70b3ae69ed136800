use Rattle.std.proofs.Common.{ap, subst}
use Rattle.defs_soar.specs.declared.learning.Learned.{Learned}
use Rattle.defs_soar.specs.CandidateOf.{learned_seen}
use Rattle.defs_soar.specs.History.{chain_seen}
use Rattle.firing_records.specs.Recorded.{standing}
use Rattle.soar_record.specs.Recorded.{recorded as kept_in}
use Rattle.wave_learning.specs.Course.{by_learned_of, moment}
use Rattle.wave_learning.specs.Lawful.{MatchesAs}
use Rattle.wave_learning.specs.Seen.{course_of, explained_seen}
use Rattle.wave_learning.proofs.ExplainedLemmas.{leaves_same}
use Rattle.wave_learning.proofs.teaching.take_in.Goals as goal

pub learn_chunk-requires-clause-matches : goal.learn_chunk-requires-clause-matches
learn_chunk-requires-clause-matches c =
    subst (λ (l : Learned). MatchesAs (standing c.args.scene.now.before.now) c.args.table.now (chain_seen c.args.explained.chain) (learned_seen l)) c.in-Chunk.is c.requires.matches

pub returns-in-Chunk-clause-answer : goal.returns-in-Chunk-clause-answer
returns-in-Chunk-clause-answer c =
    let sc = c.args.scene.now in
    let m = moment (standing sc.before.now) (kept_in sc.past.now) sc.on sc.local_negations in
    let e = explained_seen c.args.explained in
    let now = course_of c.args.table.now c.args.going.now in
    leaves_same (by_learned_of m e now (learned_seen c.args.learned)) _ _ _ (ap (λ (l : Learned). by_learned_of m e now (learned_seen l)) c.in-Chunk.is) c.learn_chunk.ensures.answer

pub learn_justified-requires-clause-matches : goal.learn_justified-requires-clause-matches
learn_justified-requires-clause-matches c =
    subst (λ (l : Learned). MatchesAs (standing c.args.scene.now.before.now) c.args.table.now (chain_seen c.args.explained.chain) (learned_seen l)) c.in-Justified.is c.requires.matches

pub returns-in-Justified-clause-answer : goal.returns-in-Justified-clause-answer
returns-in-Justified-clause-answer c =
    let sc = c.args.scene.now in
    let m = moment (standing sc.before.now) (kept_in sc.past.now) sc.on sc.local_negations in
    let e = explained_seen c.args.explained in
    let now = course_of c.args.table.now c.args.going.now in
    leaves_same (by_learned_of m e now (learned_seen c.args.learned)) _ _ _ (ap (λ (l : Learned). by_learned_of m e now (learned_seen l)) c.in-Justified.is) c.learn_justified.ensures.answer

pub returns-in-Reused-clause-answer : goal.returns-in-Reused-clause-answer
returns-in-Reused-clause-answer c =
    let sc = c.args.scene.now in
    let m = moment (standing sc.before.now) (kept_in sc.past.now) sc.on sc.local_negations in
    let e = explained_seen c.args.explained in
    let now = course_of c.args.table.now c.args.going.now in
    leaves_same (by_learned_of m e now (learned_seen c.args.learned)) _ _ _ (ap (λ (l : Learned). by_learned_of m e now (learned_seen l)) c.in-Reused.is) (c.note.ensures c.args.table.now)

pub returns-in-Lost-clause-answer : goal.returns-in-Lost-clause-answer
returns-in-Lost-clause-answer c =
    let sc = c.args.scene.now in
    let m = moment (standing sc.before.now) (kept_in sc.past.now) sc.on sc.local_negations in
    let e = explained_seen c.args.explained in
    let now = course_of c.args.table.now c.args.going.now in
    leaves_same (by_learned_of m e now (learned_seen c.args.learned)) _ _ _ (ap (λ (l : Learned). by_learned_of m e now (learned_seen l)) c.in-Lost.is) (c.note-in-Lost.ensures c.args.table.now)

pub returns-in-Blocked-clause-answer : goal.returns-in-Blocked-clause-answer
returns-in-Blocked-clause-answer c =
    let sc = c.args.scene.now in
    let m = moment (standing sc.before.now) (kept_in sc.past.now) sc.on sc.local_negations in
    let e = explained_seen c.args.explained in
    let now = course_of c.args.table.now c.args.going.now in
    leaves_same (by_learned_of m e now (learned_seen c.args.learned)) _ _ _ (ap (λ (l : Learned). by_learned_of m e now (learned_seen l)) c.in-Blocked.is) (c.note-in-Blocked.ensures c.args.table.now)
