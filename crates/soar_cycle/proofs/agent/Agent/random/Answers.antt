use Rattle.std.proofs.Common.{ℕ, List, subst, sym}
use Rattle.cycle_phases.specs.Calls.{random_step}
use Rattle.cycle_phases.specs.Stepping.{QuietStep}
use Rattle.cycle_phases.specs.Stands.{Stands}
use Rattle.soar_cycle.specs.Agents.{AgentSeen}
use Rattle.soar_cycle.proofs.agent.Agent.random.Goals as goal

pub returns-clause-step : goal.returns-clause-step
returns-clause-step g c = λ standing s stands.
    subst (λ (words : List ℕ). QuietStep (random_step words s) c.random-answer.new.self.parts c.random-answer.result) c.as_slice.ensures
    (c.random-answer.ensures.step s (subst (λ (a : AgentSeen). Stands a.parts s) (sym c.self.view_is) stands))
