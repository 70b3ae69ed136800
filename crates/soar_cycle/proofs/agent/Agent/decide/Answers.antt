use Rattle.std.proofs.Common.{subst, sym}
use Rattle.cycle_phases.specs.Stands.{Stands}
use Rattle.soar_cycle.specs.Agents.{AgentSeen}
use Rattle.defs_soar.specs.Decision.{decided_by}
use Rattle.cycle_phases.specs.Stepping.{GoesStep}
use Rattle.soar_cycle.proofs.ToldLemmas.{halted_told, step_told}
use Rattle.soar_cycle.proofs.agent.Agent.decide.Goals as goal

pub returns-clause-step : goal.returns-clause-step
returns-clause-step g c = λ standing s stands.
    subst (λ (a : AgentSeen). GoesStep a.parts.settings.watch a.mid_line (decided_by s) c.decide-answer.new.self.parts c.decide-answer.new.mid_line c.args.text.now c.tell-answer.new.text c.tell-answer.result) c.self.view_is
    (step_told c.self.inside.engine.parts.settings.watch c.self.inside.mid_line (decided_by s) c.decide-answer.new.self.parts c.decide-answer.new.mid_line c.new-said.result c.decide-answer.new.out c.args.text.now
    c.tell-answer.new.text c.decide-answer.result c.tell-answer.result c.new-said.ensures c.tell-answer.ensures
    (c.decide-answer.ensures.step s (subst (λ (a : AgentSeen). Stands a.parts s) (sym c.self.view_is) stands)))

pub returns-clause-limit : goal.returns-clause-limit
returns-clause-limit g c = λ standing s stands.
    halted_told (decided_by s).halted c.decide-answer.new.out c.args.text.now c.tell-answer.new.text c.decide-answer.result c.tell-answer.result c.tell-answer.ensures
    (c.decide-answer.ensures.limit s (subst (λ (a : AgentSeen). Stands a.parts s) (sym c.self.view_is) stands))
