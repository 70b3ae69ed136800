use Rattle.std.proofs.Common.{[], List, ◌++◌, ◌∙◌, map, ap, sym, subst}
use Rattle.std.proofs.lemmas.Result.{err_from_is_err_and}
use Rattle.defs_soar.specs.Agents.{Agent}
use Rattle.defs_soar.specs.Cycle.{with_changes}
use Rattle.soar_prefs.specs.Memory.{has_plain}
use Rattle.soar_settle.specs.Known.{AreTriplesKnown}
use Rattle.input_queue.specs.Seen.{queued_seen, triple_queued}
use Rattle.input_queue.specs.declared.queued.Queued.{Queued}
use Rattle.decision_parts.specs.Resettles.{resettled_now}
use Rattle.decision_parts.specs.Seen.{IsSound}
use Rattle.decision_parts.specs.Stands.{Stands}
use Rattle.cycle_parts.specs.Settling.{Settles}
use Rattle.cycle_parts.proofs.InputLemmas.{input_stops, takes_input}
use Rattle.cycle_parts.proofs.SoundLemmas.{queued_kept_up, sound_in_cycle}
use Rattle.cycle_parts.proofs.engine.Engine.settle_queued.Goals as goal

pub returns-in_err-cycles-clause-step : goal.returns-in_err-cycles-clause-step
returns-in_err-cycles-clause-step g c =
    let a = c.args.self.now.parts in
    let p = err_from_is_err_and c.from_residual.result c.from_residual.ensures.1 in
    rw (p.1, p.2) (input_stops a a c.in_err-cycles.field-0.0 c.in_err-cycles.ensures.count)

pub resettle-requires-clause-sound : goal.resettle-requires-clause-sound
resettle-requires-clause-sound g c =
    let a = c.args.self.now.parts in
    let queued = c.as_slice.ensures in
    let known = c.in_ok-make_changes.ensures.known a.table c.requires.sound.inputs_known (subst (λ (q : List Queued). AreTriplesKnown a.table (map triple_queued q)) (sym queued) c.requires.sound.queue_known) in
    let kept_up =
    queued_kept_up a c.make_changes.new.inputs c.note_queued.new.changed c.requires.sound (λ t h. c.in_ok-make_changes.ensures.covers t (ap (λ (q : List Queued). has_plain (map triple_queued q) t) queued ∙ h))
    (c.in_ok-note_queued.ensures ∙ ap (λ (q : List Queued). a.changed ++ map triple_queued q) c.as_slice-2.ensures) in
    subst (λ queue. IsSound (record a { inputs = c.make_changes.new.inputs; changed = c.note_queued.new.changed; queue = queue; cycles = c.in_ok-cycles.cycles; learned = 0 })) (sym c.new.ensures)
    (sound_in_cycle a c.make_changes.new.inputs c.note_queued.new.changed c.in_ok-cycles.cycles c.requires.sound known kept_up)

pub returns-clause-step : goal.returns-clause-step
returns-clause-step g c =
    let a = c.args.self.now.parts in
    takes_input a c.resettle.new.self.parts c.make_changes.new.inputs c.note_queued.new.changed c.in_ok-cycles.cycles c.resettle.result
    (c.in_ok-make_changes.ensures.changed ∙ ap (λ (q : List Queued). with_changes a.inputs (map queued_seen q)) c.as_slice.ensures) c.in_ok-cycles.ensures.count
    (subst (λ queue. (s : Agent) → Stands (record a { inputs = c.make_changes.new.inputs; changed = c.note_queued.new.changed; queue = queue; cycles = c.in_ok-cycles.cycles; learned = 0 }) s → Settles [] (resettled_now s) c.resettle.new.self.parts c.resettle.result)
    c.new.ensures c.resettle.ensures.settled)
