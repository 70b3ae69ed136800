use Rattle.std.proofs.Common.{◌≡◌, ◌∙◌, sym, subst}
use Rattle.std.proofs.lemmas.Result.{err_from_is_err_and}
use Rattle.defs_soar.specs.CandidateOf.{learned_by, learned_seen, words_of_candidate}
use Rattle.defs_soar.specs.Goals.{goal_ids}
use Rattle.defs_soar.specs.History.{chain_seen}
use Rattle.defs_soar.specs.LearnedRules.{names_joining}
use Rattle.firing_records.specs.Recorded.{standing}
use Rattle.learning_laws.specs.Lawful.{Grown}
use Rattle.soar_record.specs.Recorded.{recorded as kept_in}
use Rattle.wave_learning.specs.Course.{moment, outcome_in, taught}
use Rattle.wave_learning.specs.Lawful.{MatchesAs}
use Rattle.wave_learning.specs.Seen.{course_of, explained_seen}
use Rattle.wave_learning.proofs.CandidateLemmas.{after_grown}
use Rattle.wave_learning.proofs.CourseLemmas.{candidate_in, depth_in, goals_in, grounds_in, matches_in, parts_in, rising_in}
use Rattle.wave_learning.proofs.ExplainedLemmas.{known_grown, leaves_same}
use Rattle.wave_learning.proofs.StepLemmas.{taught_on}
use Rattle.wave_learning.proofs.StopLemmas.{taught_ends}
use Rattle.wave_learning.proofs.teaching.learn_from.Goals as goal

pub candidate_of-requires : goal.candidate_of-requires
candidate_of-requires c =
    let sc = c.args.scene.now in
    parts_in (standing sc.before.now) (kept_in sc.past.now) sc.on sc.local_negations (course_of c.args.table.now c.args.going.now) (explained_seen c.args.explained) c.requires.explained

pub take_in-requires-clause-goals : goal.take_in-requires-clause-goals
take_in-requires-clause-goals c =
    let sc = c.args.scene.now in
    let words = c.args.table.now in
    let later = c.candidate_of.new.table in
    let chain = chain_seen c.args.explained.chain in
    let depth = c.args.explained.depth in
    let is : later ≡ words_of_candidate words chain depth = c.in_ok-candidate.ensures.answer.1 in
    known_grown words later (goal_ids sc.before.now.goals.now) (subst (Grown words) (sym is) (after_grown (names_joining words chain depth) words))
    (goals_in (standing sc.before.now) (kept_in sc.past.now) sc.on sc.local_negations (course_of words c.args.going.now) c.requires.explained.course)

pub take_in-requires-clause-grounds : goal.take_in-requires-clause-grounds
take_in-requires-clause-grounds c =
    let sc = c.args.scene.now in
    grounds_in (standing sc.before.now) (kept_in sc.past.now) sc.on sc.local_negations (course_of c.args.table.now c.args.going.now) (explained_seen c.args.explained) c.requires.explained
    c.candidate_of.new.table c.in_ok-candidate.ensures.answer.1

pub take_in-requires-clause-rising : goal.take_in-requires-clause-rising
take_in-requires-clause-rising c =
    let sc = c.args.scene.now in
    rising_in (standing sc.before.now) (kept_in sc.past.now) sc.on sc.local_negations (course_of c.args.table.now c.args.going.now) (explained_seen c.args.explained) c.requires.explained

pub take_in-requires-clause-matches : goal.take_in-requires-clause-matches
take_in-requires-clause-matches c =
    let sc = c.args.scene.now in
    let s = standing sc.before.now in
    let past = kept_in sc.past.now in
    let now = course_of c.args.table.now c.args.going.now in
    let e = explained_seen c.args.explained in
    let later = c.candidate_of.new.table in
    let is : later ≡ words_of_candidate now.words e.chain e.depth = c.in_ok-candidate.ensures.answer.1 in
    let learned_is : learned_seen c.in_ok-learned.learned ≡ learned_by later e.chain e.depth (outcome_in (moment s past sc.on sc.local_negations) e (record now { words = later })) =
    c.in_ok-learned.ensures later e.depth (depth_in s past sc.on sc.local_negations now e c.requires.explained)
    (record { candidate = c.in_ok-candidate.ensures.answer.0 ∙ candidate_in s past sc.on sc.local_negations now e c.requires.explained later is }) in
    subst (MatchesAs s later e.chain) (sym learned_is) (matches_in s past sc.on sc.local_negations now e c.requires.explained later is)

pub returns-clause-answer : goal.returns-clause-answer
returns-clause-answer c =
    let sc = c.args.scene.now in
    let s = standing sc.before.now in
    let past = kept_in sc.past.now in
    let m = moment s past sc.on sc.local_negations in
    let now = course_of c.args.table.now c.args.going.now in
    let e = explained_seen c.args.explained in
    let later = c.candidate_of.new.table in
    let is : later ≡ words_of_candidate now.words e.chain e.depth = c.in_ok-candidate.ensures.answer.1 in
    let learned = learned_seen c.in_ok-learned.learned in
    let learned_is : learned ≡ learned_by later e.chain e.depth (outcome_in m e (record now { words = later })) =
    c.in_ok-learned.ensures later e.depth (depth_in s past sc.on sc.local_negations now e c.requires.explained)
    (record { candidate = c.in_ok-candidate.ensures.answer.0 ∙ candidate_in s past sc.on sc.local_negations now e c.requires.explained later is }) in
    leaves_same (taught m e now) _ _ _ (taught_on m e now later learned c.in_ok-candidate.ensures.answer.2 is learned_is) c.take_in.ensures.answer

pub returns-in_err-candidate-clause-answer : goal.returns-in_err-candidate-clause-answer
returns-in_err-candidate-clause-answer c =
    let sc = c.args.scene.now in
    let m = moment (standing sc.before.now) (kept_in sc.past.now) sc.on sc.local_negations in
    let now = course_of c.args.table.now c.args.going.now in
    let p = err_from_is_err_and c.from_residual.result c.from_residual.ensures.1 in
    rw (p.1, p.2) (taught_ends m (explained_seen c.args.explained) now now c.candidate_of.new.table c.in_err-candidate.field-0.0 c.in_err-candidate.ensures.answer)
