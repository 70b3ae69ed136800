use Rattle.std.proofs.Common.{◌∙◌, ◌++◌, ap}
use Rattle.defs_run.specs.Whole.{whole_stage}
use Rattle.defs_run.specs.WholeReading.{read_whole}
use Rattle.defs_run.specs.Runs.{obeyed}
use Rattle.defs_run.specs.Sessions.{Session}
use Rattle.soar_agent.specs.States.{session_of}
use Rattle.soar_agent.proofs.CommandLemmas.{said_limit, said_outcome, said_stop}
use Rattle.soar_agent.proofs.state.Session.answer.Goals as goal

pub returns-in-Ok-clause-command : goal.returns-in-Ok-clause-command
returns-in-Ok-clause-command g c = λ history remembers.
    said_outcome c.args.self.now.agent.parts.settings.watch c.args.self.now.agent.mid_line (obeyed whole_stage c.args.source.now c.args.c.now.line c.args.c.now.text (session_of c.args.self.now history)) c.obey.new.self _ c.obey.new.out
    c.args.text.now c.push_str.new.self c.in-Ok.outcome c.new-said.ensures (c.in-Ok.ensures.command history remembers) (c.in_ok-push_str-in-Ok.ensures.ok ∙ ap (λ t. c.args.text.now ++ t) c.as_str.ensures)

pub returns-clause-outcome : goal.returns-clause-outcome
returns-clause-outcome g c = λ history remembers.
    let s : Session = session_of c.args.self.now history in
    said_limit s (read_whole s.agent.names.words c.args.c.now.text) c.mid_line.result c.obey.new.out c.args.text.now c.say_stop.new.text c.in-Err.stop c.say_stop.result (c.in-Err.ensures.outcome history remembers) c.say_stop.ensures

pub returns-clause-command : goal.returns-clause-command
returns-clause-command g c = λ history remembers.
    said_stop c.args.self.now c.obey.new.self history (obeyed whole_stage c.args.source.now c.args.c.now.line c.args.c.now.text (session_of c.args.self.now history)) c.mid_line.result _ c.obey.new.out
    c.args.text.now c.say_stop.new.text c.in-Err.stop c.say_stop.result c.new-said.ensures c.mid_line.ensures (c.in-Err.ensures.command history remembers) c.say_stop.ensures
