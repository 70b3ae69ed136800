use Rattle.defs_run.specs.Sessions.{Session, refused_by}
use Rattle.soar_agent.specs.Commands.{refusal_told}
use Rattle.soar_agent.specs.States.{session_of}
use Rattle.soar_agent.proofs.CommandLemmas.{refused_left}
use Rattle.soar_agent.proofs.state.Session.refuse.Goals as goal

pub returns-clause-refused : goal.returns-clause-refused
returns-clause-refused g c = λ stands history remembers.
    let s : Session = session_of c.args.self.now history in
    refused_left s (refused_by (refusal_told c.args.number c.args.name.now) c.args.source.now c.args.line s) c.say_refused-answer.new.self c.standing_after-self.result c.args.text.now c.say_refused-answer.new.text
    c.say_refused-answer.result (c.say_refused-answer.ensures.refused history remembers)
