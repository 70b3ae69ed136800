use Rattle.std.proofs.Common.{◌∙◌, ◌++◌, ap, refl}
use Rattle.soar_agent.specs.Commands.{refusal_told}
use Rattle.session_parts.specs.Reasons.{refusal_by}
use Rattle.soar_agent.proofs.CommandLemmas.{told_said}
use Rattle.soar_agent.proofs.state.Session.say_refused.Goals as goal

pub refuse_with-requires-clause-known : goal.refuse_with-requires-clause-known
refuse_with-requires-clause-known g c = c.reason_told-reason.ensures.known c.args.self.now.agent.parts.table

pub returns-in-Ok-clause-refused : goal.returns-in-Ok-clause-refused
returns-in-Ok-clause-refused g c = λ history remembers.
    told_said c.args.self.now c.refuse_with.new.self c.args.source.now c.args.line history (refusal_by c.args.self.now.agent.parts.table c.reason_told-reason.result) (refusal_told c.args.number c.args.name.now)
    c.refuse_with.new.out c.args.text.now c.push_str.new.self _ c.in-Ok.field-0 c.new-said.ensures (c.reason_told-reason.ensures.reason c.args.self.now.agent.parts.table) (c.in-Ok.ensures.reply history remembers)
    (c.in_ok-push_str-in-Ok.ensures.ok ∙ ap (λ t. c.args.text.now ++ t) c.as_str.ensures)
