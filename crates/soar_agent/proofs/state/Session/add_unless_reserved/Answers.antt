use Rattle.std.proofs.Common.{◌≡◌, Bool, true, false, sym, subst}
use Rattle.std.specs.Prelude.{if◌then◌else◌}
use Rattle.defs_soar.specs.Goals.{is_operator_slot}
use Rattle.defs_run.specs.Inputs.{refuses}
use Rattle.defs_run.specs.Orders.{reserved_attribute}
use Rattle.defs_run.specs.Sessions.{Session}
use Rattle.soar_agent.specs.Carries.{Responds, response_by}
use Rattle.soar_agent.specs.Adding.{adds_by}
use Rattle.command_orders.specs.Asked.{operand_seen}
use Rattle.soar_agent.specs.States.{session_of}
use Rattle.soar_agent.proofs.state.Session.add_unless_reserved.Goals as goal

pub returns-then-is_operator_slot-clause-reply : goal.returns-then-is_operator_slot-clause-reply
returns-then-is_operator_slot-clause-reply g c = λ history remembers.
    let s : Session = session_of c.args.self.now history in
    let reserved : is_operator_slot c.args.self.now.agent.parts.goals c.args.slot.id c.args.slot.attr ≡ true = cc (c.is_operator_slot.ensures, c.as_slice.ensures, c.if-is_operator_slot.true) in
    subst (λ (b : Bool). Responds c.args.self.now.agent.parts.settings.watch c.args.self.now.agent.mid_line (response_by c.args.origin.now.source.now c.args.origin.now.line s (if b then refuses reserved_attribute else adds_by c.args.slot.id c.args.slot.attr (operand_seen c.args.value) s))
    c.refuse_with.new.self c.args.out.now c.refuse_with.new.out c.refuse_with.result)
    (sym reserved) (c.refuse_with.ensures.reply history remembers)

pub returns-else-is_operator_slot-clause-reply : goal.returns-else-is_operator_slot-clause-reply
returns-else-is_operator_slot-clause-reply g c = λ history remembers.
    let s : Session = session_of c.args.self.now history in
    let reserved : is_operator_slot c.args.self.now.agent.parts.goals c.args.slot.id c.args.slot.attr ≡ false = cc (c.is_operator_slot.ensures, c.as_slice.ensures, c.if-is_operator_slot.false) in
    subst (λ (b : Bool). Responds c.args.self.now.agent.parts.settings.watch c.args.self.now.agent.mid_line (response_by c.args.origin.now.source.now c.args.origin.now.line s (if b then refuses reserved_attribute else adds_by c.args.slot.id c.args.slot.attr (operand_seen c.args.value) s))
    c.add_value.new.self c.args.out.now c.add_value.new.out c.add_value.result)
    (sym reserved) (c.add_value.ensures.reply history remembers)
