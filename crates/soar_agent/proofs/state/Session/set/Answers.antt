use Rattle.std.proofs.Common.{ap}
use Rattle.soar_cycle.specs.Agents.{AgentSeen}
use Rattle.soar_agent.proofs.SettingLemmas.{sets}
use Rattle.soar_agent.proofs.ReadyLemmas.{letters_same, ready_after}
use Rattle.soar_agent.proofs.state.Session.set.Goals as goal

pub returns-clause-ready : goal.returns-clause-ready
returns-clause-ready g c =
    ready_after c.args.self.now c.set.new.self c.requires (ap (λ (b : AgentSeen). b.standing) c.set.ensures.agent) c.set.ensures.sound
    (letters_same c.args.self.now.agent.parts.letters c.set.new.self.parts.letters (ap (λ (b : AgentSeen). b.parts.letters) c.set.ensures.agent))

pub returns-clause-reply : goal.returns-clause-reply
returns-clause-reply g c = λ said history remembers.
    sets c.args.self.now c.set.new.self c.args.settings history said remembers c.set.ensures.agent
    (ready_after c.args.self.now c.set.new.self c.requires (ap (λ (b : AgentSeen). b.standing) c.set.ensures.agent) c.set.ensures.sound
    (letters_same c.args.self.now.agent.parts.letters c.set.new.self.parts.letters (ap (λ (b : AgentSeen). b.parts.letters) c.set.ensures.agent)))
