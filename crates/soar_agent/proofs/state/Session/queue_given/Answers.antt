use Rattle.std.proofs.Common.{◌≡◌, ◌∙◌, Bool, true, false, sym, ap, subst}
use Rattle.std.specs.Prelude.{if◌then◌else◌}
use Rattle.defs_run.specs.Inputs.{Spelled, does, is_reserved, refuses, spelled, with_queued}
use Rattle.defs_run.specs.Orders.{reserved_attribute}
use Rattle.defs_run.specs.Sessions.{Session}
use Rattle.command_orders.specs.Asked.{operand_seen}
use Rattle.soar_agent.specs.Carries.{Responds, response_by}
use Rattle.soar_agent.specs.States.{session_of}
use Rattle.soar_agent.proofs.state.Session.queue_given.Goals as goal

pub returns-then-is_reserved-clause-reply : goal.returns-then-is_reserved-clause-reply
returns-then-is_reserved-clause-reply g c = λ history remembers.
    let s : Session = session_of c.args.self.now history in
    let of : Session → Spelled = λ session. spelled session (operand_seen c.args.addition.id) (operand_seen c.args.addition.attr) (operand_seen c.args.addition.value) in
    let reserved : true ≡ is_reserved (of s).session (of s).triple =
    sym c.if-is_reserved.true ∙ (c.is_reserved.ensures s ∙ ap (λ (t : Session). is_reserved (of t).session (of t).triple) (c.lookup.ensures.session history)) in
    subst (λ (b : Bool). Responds c.args.self.now.agent.parts.settings.watch c.args.self.now.agent.mid_line (response_by c.args.origin.now.source.now c.args.origin.now.line s (if b then refuses reserved_attribute else does (with_queued c.args.adds (of s))))
    c.refuse_with.new.self c.args.out.now c.refuse_with.new.out c.refuse_with.result)
    reserved (c.refuse_with.ensures.reply history remembers)

pub returns-else-is_reserved-clause-reply : goal.returns-else-is_reserved-clause-reply
returns-else-is_reserved-clause-reply g c = λ history remembers.
    let s : Session = session_of c.args.self.now history in
    let of : Session → Spelled = λ session. spelled session (operand_seen c.args.addition.id) (operand_seen c.args.addition.attr) (operand_seen c.args.addition.value) in
    let reserved : false ≡ is_reserved (of s).session (of s).triple =
    sym c.if-is_reserved.false ∙ (c.is_reserved.ensures s ∙ ap (λ (t : Session). is_reserved (of t).session (of t).triple) (c.lookup.ensures.session history)) in
    subst (λ (b : Bool). Responds c.args.self.now.agent.parts.settings.watch c.args.self.now.agent.mid_line (response_by c.args.origin.now.source.now c.args.origin.now.line s (if b then refuses reserved_attribute else does (with_queued c.args.adds (of s))))
    c.queue_spelled.new.self c.args.out.now c.args.out.now c.queue_spelled.result)
    reserved (c.queue_spelled.ensures.reply c.args.out.now history remembers)
