use Rattle.std.proofs.Common.{refl}
use Rattle.defs_soar.specs.Agents.{Agent}
use Rattle.soar_cycle.specs.Seen.{agent_of}
use Rattle.soar_cycle.proofs.StandsLemmas.{stands_at}
use Rattle.soar_cycle.specs.Calls.{queue_step}
use Rattle.soar_agent.specs.Queueing.{queues_triple}
use Rattle.soar_agent.specs.States.{session_of}
use Rattle.soar_agent.proofs.ReplyLemmas.{quiet_done, quiet_none, with_kept}
use Rattle.soar_agent.proofs.ReadyLemmas.{ready_stepped, triple_given}
use Rattle.soar_agent.proofs.state.Session.put_queued.Goals as goal

pub queue-requires-clause-given : goal.queue-requires-clause-given
queue-requires-clause-given g c = λ standing. triple_given c.args.self.now.agent.parts c.args.triple c.requires.known c.requires.numbered

pub returns-in-Ok-clause-reply : goal.returns-in-Ok-clause-reply
returns-in-Ok-clause-reply g c = λ said history remembers.
    let a : Agent = agent_of c.args.self.now.agent.parts history in
    quiet_done c.args.self.now c.queue.new.self (queue_step c.args.adds c.args.triple a).agent (queue_step c.args.adds c.args.triple a).totals history said
    (ready_stepped c.args.self.now c.queue.new.self (queue_step c.args.adds c.args.triple) c.requires.ready c.in-Ok.ensures.standing c.in-Ok.ensures.sound (λ t stands. c.in-Ok.ensures.step c.requires.ready.0 t stands) (λ t. refl)) c.in-Ok.ensures.mid_line
    (c.in-Ok.ensures.step c.requires.ready.0 a (stands_at c.args.self.now.agent.parts history remembers))

pub returns-in-Ok-clause-ready : goal.returns-in-Ok-clause-ready
returns-in-Ok-clause-ready g c =
    ready_stepped c.args.self.now c.queue.new.self (queue_step c.args.adds c.args.triple) c.requires.ready c.in-Ok.ensures.standing c.in-Ok.ensures.sound (λ t stands. c.in-Ok.ensures.step c.requires.ready.0 t stands) (λ t. refl)

pub returns-in-Err-clause-reply : goal.returns-in-Err-clause-reply
returns-in-Err-clause-reply g c = λ said history remembers.
    let a : Agent = agent_of c.args.self.now.agent.parts history in
    quiet_none c.args.self.now (with_kept c.queue.new.self c.args.self.now) (queue_step c.args.adds c.args.triple a).agent c.queue.new.self.parts
    (queues_triple c.args.adds c.args.triple (session_of c.args.self.now history)) said c.in-Err.stop (c.in-Err.ensures.step c.requires.ready.0 a (stands_at c.args.self.now.agent.parts history remembers))
