use Rattle.defs_run.specs.Whole.{whole_stage}
use Rattle.defs_run.specs.Runs.{obeyed}
use Rattle.defs_run.specs.Sessions.{Session}
use Rattle.soar_agent.specs.States.{session_of}
use Rattle.soar_agent.proofs.CommandLemmas.{command_left, sound_left}
use Rattle.soar_agent.proofs.state.Session.command.Goals as goal

pub returns-clause-command : goal.returns-clause-command
returns-clause-command g c = λ stands history remembers.
    let s : Session = session_of c.args.self.now history in
    command_left s (obeyed whole_stage c.args.source.now c.args.c.now.line c.args.c.now.text s) c.answer-answer.new.self c.standing_after-self.result c.args.text.now c.answer-answer.new.text
    c.answer-answer.result (c.answer-answer.ensures.command history remembers)

pub returns-clause-outcome : goal.returns-clause-outcome
returns-clause-outcome g c = λ stands history remembers. c.answer-answer.ensures.outcome history remembers

pub returns-clause-sound : goal.returns-clause-sound
returns-clause-sound g c = sound_left c.answer-answer.new.self _ c.standing_after-self.result c.answer-answer.result c.standing_after-self.ensures c.answer-answer.ensures.ready
