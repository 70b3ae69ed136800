use Rattle.defs_soar.specs.Cycle.{after_input}
use Rattle.cycle_phases.proofs.CycleLemmas.{step_on}
use Rattle.cycle_phases.proofs.cycle.take_input.Goals as goal

pub returns-clause-course : goal.returns-clause-course
returns-clause-course g c =
    step_on after_input c.args.engine.now.parts c.take_input.new.self.parts c.args.mid_line.now c.take_input.new.mid_line c.args.out.now c.take_input.new.out c.take_input.result c.take_input.ensures.step
