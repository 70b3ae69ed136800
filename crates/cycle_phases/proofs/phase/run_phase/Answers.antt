use Rattle.std.proofs.Common.{◌∙◌, Result, Ok, Err, ap, sym, subst}
use Rattle.std.proofs.lemmas.Result.{err_from_is_err_and}
use Rattle.soar_settle.specs.declared.stop.Stop.{Stop}
use Rattle.cycle_phases.specs.declared.phase.Ended.{Ended}
use Rattle.cycle_phases.specs.Courses.{Goes, phase_course}
use Rattle.cycle_phases.proofs.CycleLemmas.{phase_stops, phase_went, same_level}
use Rattle.cycle_phases.proofs.phase.run_phase.Goals as goal

pub returns-in_err-cut-clause-phase : goal.returns-in_err-cut-clause-phase
returns-in_err-cut-clause-phase g c = λ s stands.
    let a = c.args.engine.now.parts in
    let mid = c.args.mid_line.now in
    let before = c.args.out.now in
    let p = err_from_is_err_and c.from_residual-in_err-cut.result c.from_residual-in_err-cut.ensures.1 in
    subst (λ (r : Result Ended Stop). Goes a.settings.watch mid (phase_course c.args.phase s) c.run_waves.new.engine.parts c.run_waves.new.mid_line before c.run_waves.new.out r) (sym (p.1 ∙ ap Err p.2))
    (phase_stops Ended a.settings.watch c.args.phase s a c.run_waves.new.engine.parts mid c.begin_phase.new.mid_line c.run_waves.new.mid_line before c.begin_phase.new.out c.run_waves.new.out c.in_err-cut.field-0.0 stands
    c.in_ok-begin_phase.ensures (c.in_err-cut.ensures.waves s stands))

pub returns-clause-phase : goal.returns-clause-phase
returns-clause-phase g c = λ s stands.
    let a = c.args.engine.now.parts in
    let b = c.run_waves.new.engine.parts in
    phase_went a.settings.watch c.args.phase s a b c.args.mid_line.now c.begin_phase.new.mid_line c.run_waves.new.mid_line c.end_phase.new.mid_line c.args.out.now c.begin_phase.new.out c.run_waves.new.out
    c.end_phase.new.out c.in_ok-cut.cut stands (same_level b.settings a.settings c.in_ok-cut.ensures.settings) c.in_ok-begin_phase.ensures (c.in_ok-cut.ensures.waves s stands) c.in_ok-end_phase.ensures
