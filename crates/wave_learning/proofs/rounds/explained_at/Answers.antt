use Rattle.std.proofs.Common.{◌≡◌, sym, Some}
use Rattle.defs_soar.specs.History.{firing_seen}
use Rattle.explained_firings.specs.Explaining.{TellsExplanation}
use Rattle.firing_records.specs.Recorded.{standing}
use Rattle.soar_record.specs.Recorded.{recorded as kept_in}
use Rattle.wave_learning.specs.Found.{first_firing}
use Rattle.wave_learning.specs.Seen.{TellsExplained, course_of}
use Rattle.wave_learning.proofs.CourseLemmas.{explainable, nothing_found, told_apart}
use Rattle.wave_learning.proofs.ExplainedLemmas.{if_ok, told}
use Rattle.wave_learning.proofs.rounds.explained_at.Goals as goal

pub firing_numbered-requires : goal.firing_numbered-requires
firing_numbered-requires c =
    let sc = c.args.scene.now in
    told_apart (standing sc.before.now) (kept_in sc.past.now) sc.on sc.local_negations (course_of c.args.table.now c.args.going.now) c.requires.lawful

pub explain-requires-clause-sound : goal.explain-requires-clause-sound
explain-requires-clause-sound c =
    let sc = c.args.scene.now in
    let s = standing sc.before.now in
    let past = kept_in sc.past.now in
    let now = course_of c.args.table.now c.args.going.now in
    let f = firing_seen c.in-Some.firing.now in
    let q : first_firing c.args.number now.entries ≡ Some f = sym c.in-Some.ensures in
    explainable s past sc.on sc.local_negations now c.requires.lawful c.args.number f q

pub returns-in-Some : goal.returns-in-Some
returns-in-Some c =
    let sc = c.args.scene.now in
    let s = standing sc.before.now in
    let past = kept_in sc.past.now in
    let now = course_of c.args.table.now c.args.going.now in
    let f = firing_seen c.in-Some.firing.now in
    let q : first_firing c.args.number now.entries ≡ Some f = sym c.in-Some.ensures in
    if_ok c.explain.result (TellsExplanation now.words s past f) (TellsExplained s past sc.on sc.local_negations c.args.number now)
    (told s past sc.on sc.local_negations now c.requires.lawful c.args.number f q) c.explain.ensures

pub returns-in-None : goal.returns-in-None
returns-in-None c =
    let sc = c.args.scene.now in
    let s = standing sc.before.now in
    let past = kept_in sc.past.now in
    let now = course_of c.args.table.now c.args.going.now in
    nothing_found s past sc.on sc.local_negations now c.args.number (sym c.in-None.ensures)
