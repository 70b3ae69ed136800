use Rattle.std.proofs.Common.{refl}
use Rattle.soar_rule.specs.Productions.{ProductionOf, production_seen}
use Rattle.defs_soar.specs.Agents.{Agent}
use Rattle.defs_run.specs.Sessions.{quiet, with_agent}
use Rattle.soar_cycle.specs.Seen.{agent_of}
use Rattle.soar_cycle.proofs.StandsLemmas.{stands_at}
use Rattle.soar_cycle.specs.Calls.{load_step}
use Rattle.soar_agent.specs.States.{session_of}
use Rattle.soar_agent.proofs.ReplyLemmas.{drawn_done, drawn_none, with_kept}
use Rattle.soar_agent.proofs.ReadyLemmas.{ready_stepped}
use Rattle.soar_agent.proofs.state.Session.load.Goals as goal

pub returns-in-Ok-clause-reply : goal.returns-in-Ok-clause-reply
returns-in-Ok-clause-reply g c = λ said history remembers.
    let a : Agent = agent_of c.args.self.now.agent.parts history in
    let p : ProductionOf = production_seen c.args.production in
    drawn_done c.args.self.now c.load.new.self (load_step p a).agent (load_step p a).totals history said
    (ready_stepped c.args.self.now c.load.new.self (load_step (production_seen c.args.production)) c.requires.ready c.in-Ok.ensures.standing c.in-Ok.ensures.sound (λ t stands. c.in-Ok.ensures.step c.requires.ready.0 t stands) (λ t. refl)) c.in-Ok.ensures.mid_line
    (c.in-Ok.ensures.step c.requires.ready.0 a (stands_at c.args.self.now.agent.parts history remembers))

pub returns-in-Ok-clause-ready : goal.returns-in-Ok-clause-ready
returns-in-Ok-clause-ready g c =
    ready_stepped c.args.self.now c.load.new.self (load_step (production_seen c.args.production)) c.requires.ready c.in-Ok.ensures.standing c.in-Ok.ensures.sound (λ t stands. c.in-Ok.ensures.step c.requires.ready.0 t stands) (λ t. refl)

pub returns-in-Err-clause-reply : goal.returns-in-Err-clause-reply
returns-in-Err-clause-reply g c = λ said history remembers.
    let a : Agent = agent_of c.args.self.now.agent.parts history in
    let p : ProductionOf = production_seen c.args.production in
    drawn_none c.args.self.now (with_kept c.load.new.self c.args.self.now) (load_step p a).agent (load_step p a).totals c.load.new.self.parts
    (quiet (with_agent (session_of c.args.self.now history) (load_step p a).agent)) said c.in-Err.stop c.in-Err.ensures.mid_line
    (c.in-Err.ensures.step c.requires.ready.0 a (stands_at c.args.self.now.agent.parts history remembers))
