use Rattle.std.proofs.Common.{subst, sym}
use Rattle.cycle_phases.specs.Stands.{Stands}
use Rattle.cycle_phases.specs.Stepping.{GoesStep}
use Rattle.cycle_phases.specs.Calls.{input_step}
use Rattle.soar_cycle.specs.Agents.{AgentSeen}
use Rattle.soar_cycle.proofs.ToldLemmas.{step_told}
use Rattle.soar_cycle.proofs.agent.Agent.input_now.Goals as goal

pub returns-clause-step : goal.returns-clause-step
returns-clause-step g c = λ standing s stands.
    let step = input_step c.args.adds c.args.triple s in
    subst (λ (a : AgentSeen). GoesStep a.parts.settings.watch a.mid_line step c.input_now-answer.new.self.parts c.input_now-answer.new.mid_line c.args.text.now c.tell-answer.new.text c.tell-answer.result) c.self.view_is
    (step_told c.self.inside.engine.parts.settings.watch c.self.inside.mid_line step c.input_now-answer.new.self.parts c.input_now-answer.new.mid_line c.new-said.result c.input_now-answer.new.out c.args.text.now
    c.tell-answer.new.text c.input_now-answer.result c.tell-answer.result c.new-said.ensures c.tell-answer.ensures
    (c.input_now-answer.ensures.step s (subst (λ (a : AgentSeen). Stands a.parts s) (sym c.self.view_is) stands)))
