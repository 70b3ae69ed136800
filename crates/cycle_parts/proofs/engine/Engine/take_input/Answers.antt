use Rattle.std.proofs.Common.{[], ◌∷◌, subst}
use Rattle.std.proofs.lemmas.Result.{err_from_is_err_and}
use Rattle.defs_soar.specs.Cycle.{after_input}
use Rattle.defs_soar.specs.Events.{begins, input_phase}
use Rattle.step_report.specs.Reports.{settled_events}
use Rattle.step_report.specs.Saying.{SaysEvents}
use Rattle.cycle_parts.proofs.SteppingLemmas.{goes_not, goes_on}
use Rattle.cycle_parts.proofs.LawfulLemmas.{lawful_with_input}
use Rattle.cycle_parts.proofs.engine.Engine.take_input.Goals as goal

pub returns-in_err-settled-clause-step : goal.returns-in_err-settled-clause-step
returns-in_err-settled-clause-step g c s stands =
    let a = c.args.self.now.parts in
    let p = err_from_is_err_and c.from_residual.result c.from_residual.ensures.1 in
    rw (p.1, p.2)
    (goes_not a.settings.watch (begins input_phase ∷ []) (after_input s) c.settle_queued.new.self.parts c.in_err-settled.field-0.0 c.args.mid_line.now c.args.out.now (c.in_err-settled.ensures.step s stands))

pub returns-clause-step : goal.returns-clause-step
returns-clause-step g c s stands =
    let a = c.args.self.now.parts in
    let new = c.settle_queued.new.self.parts in
    let settled = c.in_ok-settled.settled in
    let says = subst (λ settings. SaysEvents settings.watch new.table (begins input_phase ∷ settled_events settled) c.args.mid_line.now c.args.out.now c.say_input.new.mid_line c.say_input.new.out)
    c.settle_queued.ensures.settings c.in_ok-say_input.ensures in
    goes_on a.settings.watch (begins input_phase ∷ []) (after_input s) new settled c.args.mid_line.now c.say_input.new.mid_line c.args.out.now c.say_input.new.out (c.in_ok-settled.ensures.step s stands) says

pub returns-clause-lawful : goal.returns-clause-lawful
returns-clause-lawful g c =
    lawful_with_input c.args.self.now.parts c.settle_queued.new.self.parts c.requires.lawful (λ s stands. (returns-clause-step g c s stands).stepped)
