use Rattle.std.proofs.Common.{◌≡◌, ◌∙◌, Bool, true, false, not, sym, ap, subst}
use Rattle.std.specs.Prelude.{if◌then◌else◌}
use Rattle.defs_run.specs.Inputs.{is_top_level, refuses}
use Rattle.defs_run.specs.Orders.{not_of_the_top_state}
use Rattle.defs_run.specs.Sessions.{Session}
use Rattle.soar_agent.specs.Carries.{Responds, response_by}
use Rattle.soar_agent.specs.Adding.{adds_to}
use Rattle.command_orders.specs.Asked.{operand_seen}
use Rattle.soar_agent.specs.States.{session_of}
use Rattle.soar_agent.proofs.state.Session.add_at_top.Goals as goal

pub returns-then-at_top-clause-reply : goal.returns-then-at_top-clause-reply
returns-then-at_top-clause-reply g c = λ history remembers.
    let s : Session = session_of c.args.self.now history in
    let top : true ≡ is_top_level s c.args.slot.id =
    sym c.if-at_top.true ∙ (c.is_top_level-at_top.ensures s ∙ ap (λ (t : Session). is_top_level t c.args.slot.id) (c.lookup.ensures.session history)) in
    subst (λ (b : Bool). Responds c.args.self.now.agent.parts.settings.watch c.args.self.now.agent.mid_line (response_by c.args.origin.now.source.now c.args.origin.now.line s (if not b then refuses not_of_the_top_state else adds_to c.args.slot.id c.args.slot.attr (operand_seen c.args.value) s))
    c.add_unless_reserved.new.self c.args.out.now c.add_unless_reserved.new.out c.add_unless_reserved.result)
    top (c.add_unless_reserved.ensures.reply history remembers)

pub returns-else-at_top-clause-reply : goal.returns-else-at_top-clause-reply
returns-else-at_top-clause-reply g c = λ history remembers.
    let s : Session = session_of c.args.self.now history in
    let top : false ≡ is_top_level s c.args.slot.id =
    sym c.if-at_top.false ∙ (c.is_top_level-at_top.ensures s ∙ ap (λ (t : Session). is_top_level t c.args.slot.id) (c.lookup.ensures.session history)) in
    subst (λ (b : Bool). Responds c.args.self.now.agent.parts.settings.watch c.args.self.now.agent.mid_line (response_by c.args.origin.now.source.now c.args.origin.now.line s (if not b then refuses not_of_the_top_state else adds_to c.args.slot.id c.args.slot.attr (operand_seen c.args.value) s))
    c.refuse_with.new.self c.args.out.now c.refuse_with.new.out c.refuse_with.result)
    top (c.refuse_with.ensures.reply history remembers)
