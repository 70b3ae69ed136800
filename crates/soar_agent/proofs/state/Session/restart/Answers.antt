use Rattle.defs_soar.specs.Agents.{Agent}
use Rattle.soar_cycle.specs.Seen.{agent_of}
use Rattle.soar_cycle.proofs.StandsLemmas.{stands_at}
use Rattle.soar_cycle.specs.Calls.{restart_step}
use Rattle.soar_agent.specs.Restarting.{restarts}
use Rattle.soar_agent.specs.States.{session_of}
use Rattle.soar_agent.proofs.ReplyLemmas.{quiet_none, with_kept}
use Rattle.soar_agent.proofs.SettingLemmas.{starts_anew}
use Rattle.soar_agent.proofs.ReadyLemmas.{ready_anew}
use Rattle.soar_agent.proofs.state.Session.restart.Goals as goal

pub returns-in-Ok-clause-ready : goal.returns-in-Ok-clause-ready
returns-in-Ok-clause-ready g c = ready_anew c.args.self.now c.restart.new.self c.new.result c.requires c.in-Ok.ensures.standing c.in-Ok.ensures.sound c.new.ensures

pub returns-in-Ok-clause-reply : goal.returns-in-Ok-clause-reply
returns-in-Ok-clause-reply g c = λ said history remembers.
    let a : Agent = agent_of c.args.self.now.agent.parts history in
    starts_anew c.args.self.now c.restart.new.self c.new.result history said
    (ready_anew c.args.self.now c.restart.new.self c.new.result c.requires c.in-Ok.ensures.standing c.in-Ok.ensures.sound c.new.ensures) c.in-Ok.ensures.mid_line c.new.ensures
    (c.in-Ok.ensures.step c.requires.0 a (stands_at c.args.self.now.agent.parts history remembers))

pub returns-in-Err-clause-reply : goal.returns-in-Err-clause-reply
returns-in-Err-clause-reply g c = λ said history remembers.
    let a : Agent = agent_of c.args.self.now.agent.parts history in
    quiet_none c.args.self.now (with_kept c.restart.new.self c.args.self.now) (restart_step a).agent c.restart.new.self.parts (restarts (session_of c.args.self.now history)) said c.in-Err.stop
    (c.in-Err.ensures.step c.requires.0 a (stands_at c.args.self.now.agent.parts history remembers))
