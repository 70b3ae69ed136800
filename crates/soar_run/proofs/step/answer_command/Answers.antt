use Rattle.std.proofs.Common.{List, ℕ, Ok, Err, subst}
use Rattle.defs_run.specs.Whole.{whole_stage}
use Rattle.defs_run.specs.Runs.{obeyed}
use Rattle.soar_agent.specs.Commands.{Outcomes}
use Rattle.soar_run.specs.Spoken.{StandsFor}
use Rattle.soar_run.proofs.StepLemmas.{commands_at, speaks_stopped}
use Rattle.soar_run.proofs.step.answer_command.Goals as goal

pub returns-in-Ok-clause-answer : goal.returns-in-Ok-clause-answer
returns-in-Ok-clause-answer g c = λ s stands.
    let reply = obeyed whole_stage c.args.source.now c.args.command.now.line c.args.command.now.text s in
    c.follow.ensures.answer s reply
    (subst (λ (first : List ℕ). Outcomes s.agent.settings.watch s.mid_line reply c.command.new.self first c.command.new.text (Ok c.in-Ok.outcome)) c.new-text.ensures
    (commands_at c.args.session.now s c.command.new.self (obeyed whole_stage c.args.source.now c.args.command.now.line c.args.command.now.text) _ c.command.new.text (Ok c.in-Ok.outcome) stands
    (c.in-Ok.ensures.command c.requires.ready.0)))

pub returns-in-Err-Limit-clause-answer : goal.returns-in-Err-Limit-clause-answer
returns-in-Err-Limit-clause-answer g c = λ s stands.
    let reply = obeyed whole_stage c.args.source.now c.args.command.now.line c.args.command.now.text s in
    speaks_stopped (StandsFor c.command.new.self) s reply c.command.new.self _ c.command.new.text c.in-Err-Limit.field-0 c.in-Err-Limit.limit (g.O.Sink.written c.args.out.now) (g.O.Sink.written c.put_answer.new.out) c.put_answer.result
    c.put_answer.ensures.answer c.put_answer.ensures.written c.put_answer.ensures.prefix c.new-text.ensures c.in-Err-Limit.field-0-is
    (commands_at c.args.session.now s c.command.new.self (obeyed whole_stage c.args.source.now c.args.command.now.line c.args.command.now.text) _ c.command.new.text (Err c.in-Err-Limit.field-0) stands
    (c.in-Err-Limit.ensures.command c.requires.ready.0))
