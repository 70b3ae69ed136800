use Rattle.std.proofs.Common.{◌∙◌, Ok, refl, subst}
use Rattle.defs_run.specs.Orders.{Refusal}
use Rattle.defs_run.specs.Sessions.{Reply, Session, refused_by}
use Rattle.command_runs.specs.Carrying.{refusal_of}
use Rattle.soar_agent.specs.Commands.{RefusesTold, refusal_told}
use Rattle.soar_run.proofs.StepLemmas.{refuses_put}
use Rattle.soar_run.proofs.step.refuse_told.Goals as goal

pub returns-in-Ok-clause-answer : goal.returns-in-Ok-clause-answer
returns-in-Ok-clause-answer g c = λ s stands.
    let reply : Refusal → Session → Reply = λ r t. refused_by r c.args.source.now c.args.line t in
    let told = c.in-Ok.ensures.refused c.requires.ready.0 stands.history stands.remembers in
    let here = subst (λ t. RefusesTold t (reply (refusal_told c.number_of.result c.args.name.now) t) c.refuse.new.self c.new-text.result c.refuse.new.text (Ok c.in-Ok.field-0)) stands.session told in
    refuses_put s (reply (refusal_of c.args.why c.args.name.now) s) c.refuse.new.self c.new-text.result c.refuse.new.text c.as_bytes.result.now (g.O.Sink.written c.args.out.now) (g.O.Sink.written c.put_all.new.out) c.put_all.result
    c.new-text.ensures (c.as_bytes.ensures.value ∙ c.as_str.ensures)
    (subst (λ r. RefusesTold s (reply r s) c.refuse.new.self c.new-text.result c.refuse.new.text (Ok c.in-Ok.field-0)) (c.number_of.ensures.refusal c.args.name.now) here)
    refl c.put_all.ensures.all c.put_all.ensures.prefix
