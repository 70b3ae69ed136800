use Rattle.std.proofs.Common.{[], Err, Ok, sym, subst}
use Rattle.std.proofs.lemmas.Result.{err_from_is_err_and}
use Rattle.soar_settle.specs.Known.{AreTriplesKnown}
use Rattle.step_report.specs.Reports.{settled_events}
use Rattle.step_report.specs.Saying.{SaysEvents}
use Rattle.cycle_parts.specs.Calls.{input_step}
use Rattle.cycle_parts.proofs.InputNowLemmas.{settled_inputs}
use Rattle.cycle_parts.proofs.SoundLemmas.{given_known, input_kept_up, input_known, sound_with_inputs}
use Rattle.cycle_parts.proofs.SteppingLemmas.{goes_not, goes_on}
use Rattle.cycle_parts.proofs.LawfulLemmas.{lawful_input}
use Rattle.cycle_parts.proofs.engine.Engine.input_now.Goals as goal

pub resettle-requires-clause-sound : goal.resettle-requires-clause-sound
resettle-requires-clause-sound g c =
    let a = c.args.self.now.parts in
    sound_with_inputs a c.change_input.new.inputs c.push.new.self c.requires.sound
    (subst (AreTriplesKnown a.table) (sym c.in_ok-change_input.ensures) (input_known a.table c.args.adds c.args.triple a.inputs c.requires.sound.inputs_known (given_known a c.args.triple c.requires.given)))
    (input_kept_up a c.change_input.new.inputs c.push.new.self c.args.adds c.args.triple c.requires.sound c.in_ok-change_input.ensures c.in_ok-push.ensures.ok)

pub returns-in_err-settled-clause-step : goal.returns-in_err-settled-clause-step
returns-in_err-settled-clause-step g c s stands =
    let a = c.args.self.now.parts in
    let new = c.resettle.new.self.parts in
    let why = c.in_err-settled.field-0.0 in
    let p = err_from_is_err_and c.from_residual-in_err-settled.result c.from_residual-in_err-settled.ensures.1 in
    rw (p.1, p.2)
    (goes_not a.settings.watch [] (input_step c.args.adds c.args.triple s) new why c.args.mid_line.now c.args.out.now
    (settled_inputs a new c.change_input.new.inputs c.push.new.self c.args.adds c.args.triple (Err why) c.in_ok-change_input.ensures c.in_err-settled.ensures.settled s stands))

pub returns-clause-step : goal.returns-clause-step
returns-clause-step g c s stands =
    let a = c.args.self.now.parts in
    let new = c.resettle.new.self.parts in
    let settled = c.in_ok-settled.settled in
    let says = subst (λ settings. SaysEvents settings.watch new.table (settled_events settled) c.args.mid_line.now c.args.out.now c.say_settled.new.mid_line c.say_settled.new.out)
    c.resettle.ensures.settings c.in_ok-say_settled.ensures in
    goes_on a.settings.watch [] (input_step c.args.adds c.args.triple s) new settled c.args.mid_line.now c.say_settled.new.mid_line c.args.out.now c.say_settled.new.out
    (settled_inputs a new c.change_input.new.inputs c.push.new.self c.args.adds c.args.triple (Ok settled) c.in_ok-change_input.ensures c.in_ok-settled.ensures.settled s stands) says

pub returns-clause-lawful : goal.returns-clause-lawful
returns-clause-lawful g c =
    lawful_input c.args.self.now.parts c.resettle.new.self.parts c.args.adds c.args.triple c.requires.given c.requires.lawful (λ s stands. (returns-clause-step g c s stands).stepped)
