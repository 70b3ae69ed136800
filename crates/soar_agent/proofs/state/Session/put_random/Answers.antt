use Rattle.std.proofs.Common.{refl}
use Rattle.defs_soar.specs.Agents.{Agent}
use Rattle.defs_run.specs.Inputs.{with_random}
use Rattle.soar_cycle.specs.Seen.{agent_of}
use Rattle.soar_cycle.proofs.StandsLemmas.{stands_at}
use Rattle.soar_cycle.specs.Calls.{random_step}
use Rattle.soar_agent.specs.States.{session_of}
use Rattle.soar_agent.proofs.ReplyLemmas.{quiet_done, quiet_none, with_kept}
use Rattle.soar_agent.proofs.ReadyLemmas.{ready_stepped}
use Rattle.soar_agent.proofs.state.Session.put_random.Goals as goal

pub returns-in-Ok-clause-reply : goal.returns-in-Ok-clause-reply
returns-in-Ok-clause-reply g c = λ said history remembers.
    let a : Agent = agent_of c.args.self.now.agent.parts history in
    quiet_done c.args.self.now c.random.new.self (random_step c.args.words.now a).agent (random_step c.args.words.now a).totals history said
    (ready_stepped c.args.self.now c.random.new.self (random_step c.args.words.now) c.requires c.in-Ok.ensures.standing c.in-Ok.ensures.sound (λ t stands. c.in-Ok.ensures.step c.requires.0 t stands) (λ t. refl)) c.in-Ok.ensures.mid_line
    (c.in-Ok.ensures.step c.requires.0 a (stands_at c.args.self.now.agent.parts history remembers))

pub returns-in-Ok-clause-ready : goal.returns-in-Ok-clause-ready
returns-in-Ok-clause-ready g c =
    ready_stepped c.args.self.now c.random.new.self (random_step c.args.words.now) c.requires c.in-Ok.ensures.standing c.in-Ok.ensures.sound (λ t stands. c.in-Ok.ensures.step c.requires.0 t stands) (λ t. refl)

pub returns-in-Err-clause-reply : goal.returns-in-Err-clause-reply
returns-in-Err-clause-reply g c = λ said history remembers.
    let a : Agent = agent_of c.args.self.now.agent.parts history in
    quiet_none c.args.self.now (with_kept c.random.new.self c.args.self.now) (random_step c.args.words.now a).agent c.random.new.self.parts
    (with_random c.args.words.now (session_of c.args.self.now history)) said c.in-Err.stop (c.in-Err.ensures.step c.requires.0 a (stands_at c.args.self.now.agent.parts history remembers))
