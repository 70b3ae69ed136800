use Rattle.std.proofs.Common.{refl}
use Rattle.defs_soar.specs.Agents.{Agent}
use Rattle.soar_cycle.specs.Seen.{agent_of}
use Rattle.soar_cycle.proofs.StandsLemmas.{stands_at}
use Rattle.soar_cycle.specs.Calls.{excised_agent}
use Rattle.soar_agent.proofs.ReplyLemmas.{quiet_stands}
use Rattle.soar_agent.proofs.ReadyLemmas.{letters_kept, ready_after}
use Rattle.soar_agent.proofs.state.Session.take_away.Goals as goal

pub returns-clause-ready : goal.returns-clause-ready
returns-clause-ready g c =
    ready_after c.args.self.now c.excise.new.self c.requires c.excise.ensures.standing c.excise.ensures.sound
    (letters_kept c.args.self.now.agent.parts c.excise.new.self.parts (excised_agent c.args.name) c.requires.2 (λ t stands. c.excise.ensures.step c.requires.0 t stands) (λ t. refl))

pub returns-clause-reply : goal.returns-clause-reply
returns-clause-reply g c = λ said history remembers.
    let a : Agent = agent_of c.args.self.now.agent.parts history in
    quiet_stands c.args.self.now c.excise.new.self (excised_agent c.args.name a) history said
    (ready_after c.args.self.now c.excise.new.self c.requires c.excise.ensures.standing c.excise.ensures.sound
    (letters_kept c.args.self.now.agent.parts c.excise.new.self.parts (excised_agent c.args.name) c.requires.2 (λ t stands. c.excise.ensures.step c.requires.0 t stands) (λ t. refl))) c.excise.ensures.mid_line
    (c.excise.ensures.step c.requires.0 a (stands_at c.args.self.now.agent.parts history remembers))
