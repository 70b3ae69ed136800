use Rattle.std.proofs.Common.{◌∙◌, ℕ, Bool, Result, Ok, Err, ap, sym, subst}
use Rattle.std.proofs.lemmas.Result.{err_from_is_err_and}
use Rattle.defs_soar.specs.Cycle.{then_decision}
use Rattle.defs_soar.specs.Decision.{decided_by}
use Rattle.soar_settle.specs.declared.stop.Stop.{Stop}
use Rattle.cycle_phases.specs.Cycling.{GoesOn, with_decision}
use Rattle.cycle_phases.proofs.CycleLemmas.{other_answer, step_on, unless_on}
use Rattle.cycle_phases.proofs.cycle.decide.Goals as goal

pub returns-in_err-decide-clause-course : goal.returns-in_err-decide-clause-course
returns-in_err-decide-clause-course g c = λ watch.
    let a = c.args.engine.now.parts in
    let b = c.decide.new.self.parts in
    let p = err_from_is_err_and c.from_residual.result c.from_residual.ensures.1 in
    subst (λ (r : Result (Unit {0}) Stop). GoesOn watch with_decision a b c.args.mid_line.now c.decide.new.mid_line c.args.out.now c.decide.new.out r) (sym (p.1 ∙ ap Err p.2))
    (other_answer Bool (Unit {0}) watch with_decision a b c.args.mid_line.now c.decide.new.mid_line c.args.out.now c.decide.new.out c.in_err-decide.field-0.0
    (unless_on {T = Bool} (then_decision decided_by) a b c.args.mid_line.now c.decide.new.mid_line c.args.out.now c.decide.new.out (Err c.in_err-decide.field-0.0) c.if-engine.false
    (step_on {T = Bool} decided_by a b c.args.mid_line.now c.decide.new.mid_line c.args.out.now c.decide.new.out (Err c.in_err-decide.field-0.0) c.in_err-decide.ensures.step) watch))

pub returns-clause-course : goal.returns-clause-course
returns-clause-course g c =
    let a = c.args.engine.now.parts in
    let b = c.decide.new.self.parts in
    unless_on (then_decision decided_by) a b c.args.mid_line.now c.decide.new.mid_line c.args.out.now c.decide.new.out (Ok c.in_ok-decide.field-0) c.if-engine.false
    (step_on decided_by a b c.args.mid_line.now c.decide.new.mid_line c.args.out.now c.decide.new.out (Ok c.in_ok-decide.field-0) c.in_ok-decide.ensures.step)
