use Rattle.std.proofs.Common.{◌∙◌, ℕ, Result, Ok, Err, ap, sym, subst}
use Rattle.std.proofs.lemmas.Result.{err_from_is_err_and}
use Rattle.defs_soar.specs.Cycle.{then_application}
use Rattle.defs_soar.specs.Learning.{with_learning}
use Rattle.soar_settle.specs.declared.stop.Stop.{Stop}
use Rattle.trace_lines.specs.declared.halting.Phase.TheVariants.{Application}
use Rattle.cycle_phases.specs.declared.phase.Ended.{Ended}
use Rattle.cycle_phases.specs.Cycling.{GoesOn, with_application}
use Rattle.cycle_phases.proofs.CycleLemmas.{other_answer, phase_on, unless_on}
use Rattle.cycle_phases.proofs.cycle.apply.Goals as goal

pub returns-in_err-run_phase-clause-course : goal.returns-in_err-run_phase-clause-course
returns-in_err-run_phase-clause-course g c = λ watch.
    let a = c.args.engine.now.parts in
    let b = c.run_phase.new.engine.parts in
    let p = err_from_is_err_and c.from_residual.result c.from_residual.ensures.1 in
    subst (λ (r : Result (Unit {0}) Stop). GoesOn watch with_application a b c.args.mid_line.now c.run_phase.new.mid_line c.args.out.now c.run_phase.new.out r) (sym (p.1 ∙ ap Err p.2))
    (other_answer Ended (Unit {0}) watch with_application a b c.args.mid_line.now c.run_phase.new.mid_line c.args.out.now c.run_phase.new.out c.in_err-run_phase.field-0.0
    (unless_on {T = Ended} (then_application with_learning) a b c.args.mid_line.now c.run_phase.new.mid_line c.args.out.now c.run_phase.new.out (Err c.in_err-run_phase.field-0.0) c.if-engine.false
    (phase_on {T = Ended} Application a b c.args.mid_line.now c.run_phase.new.mid_line c.args.out.now c.run_phase.new.out (Err c.in_err-run_phase.field-0.0) c.in_err-run_phase.ensures.phase) watch))

pub returns-clause-course : goal.returns-clause-course
returns-clause-course g c =
    let a = c.args.engine.now.parts in
    let b = c.run_phase.new.engine.parts in
    unless_on (then_application with_learning) a b c.args.mid_line.now c.run_phase.new.mid_line c.args.out.now c.run_phase.new.out (Ok c.in_ok-run_phase.field-0) c.if-engine.false
    (phase_on Application a b c.args.mid_line.now c.run_phase.new.mid_line c.args.out.now c.run_phase.new.out (Ok c.in_ok-run_phase.field-0) c.in_ok-run_phase.ensures.phase)
