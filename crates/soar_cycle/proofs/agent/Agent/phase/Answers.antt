use Rattle.std.proofs.Common.{subst, sym}
use Rattle.cycle_phases.specs.Stands.{Stands}
use Rattle.soar_cycle.specs.Agents.{AgentSeen}
use Rattle.cycle_phases.specs.Courses.{Goes, phase_course, phased}
use Rattle.soar_cycle.proofs.ToldLemmas.{end_told, goes_told}
use Rattle.soar_cycle.proofs.agent.Agent.phase.Goals as goal

pub returns-clause-step : goal.returns-clause-step
returns-clause-step g c = λ standing s stands.
    subst (λ (a : AgentSeen). Goes a.parts.settings.watch a.mid_line (phase_course c.args.phase s) c.run_phase-answer.new.engine.parts c.run_phase-answer.new.mid_line c.args.text.now c.tell-answer.new.text c.tell-answer.result) c.self.view_is
    (goes_told c.self.inside.engine.parts.settings.watch c.self.inside.mid_line (phase_course c.args.phase s) c.run_phase-answer.new.engine.parts c.run_phase-answer.new.mid_line c.new-said.result c.run_phase-answer.new.out c.args.text.now
    c.tell-answer.new.text c.run_phase-answer.result c.tell-answer.result c.new-said.ensures c.tell-answer.ensures
    (c.run_phase-answer.ensures.phase s (subst (λ (a : AgentSeen). Stands a.parts s) (sym c.self.view_is) stands)))

pub returns-clause-end : goal.returns-clause-end
returns-clause-end g c = λ standing s stands.
    end_told (phased c.args.phase s) c.run_phase-answer.new.out c.args.text.now c.tell-answer.new.text c.run_phase-answer.result c.tell-answer.result c.tell-answer.ensures
    (c.run_phase-answer.ensures.end s (subst (λ (a : AgentSeen). Stands a.parts s) (sym c.self.view_is) stands))
