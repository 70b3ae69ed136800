use Rattle.std.proofs.lemmas.Result.{err_from_is_err_and}
use Rattle.std.proofs.Common.{◌∙◌}
use Rattle.command_orders.specs.Asked.{operand_seen}
use Rattle.soar_agent.proofs.SlotLemmas.{slot_attr_none, slot_id_none, slot_made}
use Rattle.soar_agent.proofs.state.Session.list_slot_given.Goals as goal

pub returns-clause-reply : goal.returns-clause-reply
returns-clause-reply g c = λ history remembers.
    let first = c.in_ok-id.ensures.symbol history remembers in
    let second = c.in_ok-attr.ensures.symbol history first.3 in
    slot_made c.args.self.now c.resolve.new.self c.resolve-2.new.self c.list_slot_of.new.self (operand_seen c.args.id) (operand_seen c.args.attr) c.in_ok-id.id c.in_ok-attr.attr history
    c.args.out.now c.list_slot_of.new.out c.list_slot_of.result (c.in_ok-attr.ensures.mid_line ∙ c.in_ok-id.ensures.mid_line) first second (c.list_slot_of.ensures.reply history second.3)

pub returns-in_err-id-clause-reply : goal.returns-in_err-id-clause-reply
returns-in_err-id-clause-reply g c = λ history remembers.
    let p = err_from_is_err_and c.from_residual.result c.from_residual.ensures.1 in
    rw (p.1, p.2)
    (slot_id_none c.args.self.now c.resolve.new.self (operand_seen c.args.id) (operand_seen c.args.attr) history c.args.out.now c.in_err-id.field-0.0 c.in_err-id.ensures.mid_line
    (c.in_err-id.ensures.symbol history remembers))

pub returns-in_err-attr-clause-reply : goal.returns-in_err-attr-clause-reply
returns-in_err-attr-clause-reply g c = λ history remembers.
    let p = err_from_is_err_and c.from_residual-in_err-attr.result c.from_residual-in_err-attr.ensures.1 in
    let first = c.in_ok-id.ensures.symbol history remembers in
    rw (p.1, p.2)
    (slot_attr_none c.args.self.now c.resolve.new.self c.resolve-2.new.self (operand_seen c.args.id) (operand_seen c.args.attr) c.in_ok-id.id history c.args.out.now c.in_err-attr.field-0.0
    (c.in_err-attr.ensures.mid_line ∙ c.in_ok-id.ensures.mid_line) first (c.in_err-attr.ensures.symbol history first.3))
