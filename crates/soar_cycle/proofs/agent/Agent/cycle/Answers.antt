use Rattle.std.proofs.Common.{subst, sym}
use Rattle.cycle_phases.specs.Stands.{Stands}
use Rattle.soar_cycle.specs.Agents.{AgentSeen}
use Rattle.defs_soar.specs.Cycle.{cycle}
use Rattle.defs_soar.specs.Decision.{decided_by}
use Rattle.defs_soar.specs.Learning.{with_learning}
use Rattle.cycle_phases.specs.Courses.{Goes}
use Rattle.soar_cycle.proofs.ToldLemmas.{goes_told}
use Rattle.soar_cycle.proofs.agent.Agent.cycle.Goals as goal

pub returns-clause-step : goal.returns-clause-step
returns-clause-step g c = λ standing s stands.
    subst (λ (a : AgentSeen). Goes a.parts.settings.watch a.mid_line (cycle decided_by with_learning s) c.run_cycle-answer.new.engine.parts c.run_cycle-answer.new.mid_line c.args.text.now c.tell-answer.new.text c.tell-answer.result) c.self.view_is
    (goes_told c.self.inside.engine.parts.settings.watch c.self.inside.mid_line (cycle decided_by with_learning s) c.run_cycle-answer.new.engine.parts c.run_cycle-answer.new.mid_line c.new-said.result c.run_cycle-answer.new.out c.args.text.now
    c.tell-answer.new.text c.run_cycle-answer.result c.tell-answer.result c.new-said.ensures c.tell-answer.ensures
    (c.run_cycle-answer.ensures.cycle s (subst (λ (a : AgentSeen). Stands a.parts s) (sym c.self.view_is) stands)))
