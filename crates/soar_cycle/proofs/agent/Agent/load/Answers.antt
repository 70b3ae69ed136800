use Rattle.std.proofs.Common.{subst, sym}
use Rattle.cycle_phases.specs.Stands.{Stands}
use Rattle.soar_cycle.specs.Agents.{AgentSeen}
use Rattle.soar_cycle.proofs.agent.Agent.load.Goals as goal

pub returns-clause-step : goal.returns-clause-step
returns-clause-step g c = λ standing s stands. c.load-answer.ensures.step s (subst (λ (a : AgentSeen). Stands a.parts s) (sym c.self.view_is) stands)
