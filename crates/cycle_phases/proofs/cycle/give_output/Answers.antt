use Rattle.defs_soar.specs.Cycle.{after_output}
use Rattle.cycle_phases.proofs.CycleLemmas.{step_on}
use Rattle.cycle_phases.proofs.cycle.give_output.Goals as goal

pub returns-clause-course : goal.returns-clause-course
returns-clause-course g c =
    step_on after_output c.args.engine.now.parts c.give_output.new.self.parts c.args.mid_line.now c.give_output.new.mid_line c.args.out.now c.give_output.new.out c.give_output.result c.give_output.ensures.step
