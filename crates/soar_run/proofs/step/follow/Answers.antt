use Rattle.std.proofs.Common.{[], Ok, true, false, subst}
use Rattle.command_runs.specs.declared.carrier.Next.TheVariants as next
use Rattle.soar_agent.specs.Commands.{Outcomes}
use Rattle.soar_agent.specs.declared.outcome.Outcome.{Outcome}
use Rattle.soar_run.proofs.StepLemmas.{speaks_ran, speaks_went}
use Rattle.soar_run.proofs.step.follow.Goals as goal

pub returns-in-Done-clause-answer : goal.returns-in-Done-clause-answer
returns-in-Done-clause-answer g c = λ s reply is.
    let it = subst (λ (o : Outcome). Outcomes s.agent.settings.watch s.mid_line reply c.args.session.now [] c.args.text.now (Ok o)) c.in-Done.is is in
    speaks_went s reply c.args.session.now c.args.text.now false next.Command (g.O.Sink.written c.args.out.now) (g.O.Sink.written c.put_answer.new.out) c.put_answer.result
    c.put_answer.ensures.answer c.put_answer.ensures.written c.put_answer.ensures.prefix it.0 it.1

pub returns-in-Refused-clause-answer : goal.returns-in-Refused-clause-answer
returns-in-Refused-clause-answer g c = λ s reply is.
    let it = subst (λ (o : Outcome). Outcomes s.agent.settings.watch s.mid_line reply c.args.session.now [] c.args.text.now (Ok o)) c.in-Refused.is is in
    speaks_went s reply c.args.session.now c.args.text.now true next.Command (g.O.Sink.written c.args.out.now) (g.O.Sink.written c.put_answer-in-Refused.new.out) c.put_answer-in-Refused.result
    c.put_answer-in-Refused.ensures.answer c.put_answer-in-Refused.ensures.written c.put_answer-in-Refused.ensures.prefix it.0 it.1

pub returns-in-Run-clause-answer : goal.returns-in-Run-clause-answer
returns-in-Run-clause-answer g c = λ s reply is.
    let it = subst (λ (o : Outcome). Outcomes s.agent.settings.watch s.mid_line reply c.args.session.now [] c.args.text.now (Ok o)) c.in-Run.is is in
    speaks_ran s reply c.args.session.now c.run_cycles.new.session [] c.args.text.now c.in-Run.count (g.O.Sink.written c.args.out.now) (g.O.Sink.written c.run_cycles.new.out) c.run_cycles.result
    it.0 it.1 (c.run_cycles.ensures.course it.0.history it.0.remembers) (c.run_cycles.ensures.written it.0.history it.0.remembers) (c.run_cycles.ensures.prefix it.0.history it.0.remembers)

pub returns-in-Source-clause-answer : goal.returns-in-Source-clause-answer
returns-in-Source-clause-answer g c = λ s reply is.
    let it = subst (λ (o : Outcome). Outcomes s.agent.settings.watch s.mid_line reply c.args.session.now [] c.args.text.now (Ok o)) c.in-Source.is is in
    speaks_went s reply c.args.session.now c.args.text.now false (next.File c.in-Source.name) (g.O.Sink.written c.args.out.now) (g.O.Sink.written c.put_answer-in-Source.new.out) c.put_answer-in-Source.result
    c.put_answer-in-Source.ensures.answer c.put_answer-in-Source.ensures.written c.put_answer-in-Source.ensures.prefix it.0 it.1

pub returns-in-Quit-clause-answer : goal.returns-in-Quit-clause-answer
returns-in-Quit-clause-answer g c = λ s reply is.
    let it = subst (λ (o : Outcome). Outcomes s.agent.settings.watch s.mid_line reply c.args.session.now [] c.args.text.now (Ok o)) c.in-Quit.is is in
    speaks_went s reply c.args.session.now c.args.text.now false next.End (g.O.Sink.written c.args.out.now) (g.O.Sink.written c.put_answer-in-Quit.new.out) c.put_answer-in-Quit.result
    c.put_answer-in-Quit.ensures.answer c.put_answer-in-Quit.ensures.written c.put_answer-in-Quit.ensures.prefix it.0 it.1
