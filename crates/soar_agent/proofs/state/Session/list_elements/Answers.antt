use Rattle.std.proofs.Common.{◌≡◌, ◌∙◌, List, ℕ, Option, Some, None, sym, ap, subst}
use Rattle.defs_run.specs.Carrying.{lists_elements}
use Rattle.defs_run.specs.Inputs.{does, unless_unknown}
use Rattle.defs_run.specs.Sessions.{Session, unknown_in}
use Rattle.command_orders.specs.Asked.{operand_seen}
use Rattle.soar_agent.specs.Carries.{Responds, response_by}
use Rattle.soar_agent.specs.States.{session_of}
use Rattle.soar_agent.proofs.state.Session.list_elements.Goals as goal

pub returns-in-Some-clause-reply : goal.returns-in-Some-clause-reply
returns-in-Some-clause-reply g c = λ history remembers.
    let s : Session = session_of c.args.self.now history in
    let unknown : Some c.as_str.result.now ≡ unknown_in s (operand_seen c.args.id) =
    ap Some c.as_str.ensures ∙ (sym c.in-Some.is ∙ (c.in_ok-text.ensures s ∙ ap (λ (t : Session). unknown_in t (operand_seen c.args.id)) (c.lookup.ensures.session history))) in
    subst (λ (o : Option (List ℕ)). Responds c.args.self.now.agent.parts.settings.watch c.args.self.now.agent.mid_line (response_by c.args.origin.now.source.now c.args.origin.now.line s (unless_unknown o (does (lists_elements s (operand_seen c.args.id)))))
    c.refuse_with.new.self c.args.out.now c.refuse_with.new.out c.refuse_with.result)
    unknown (c.refuse_with.ensures.reply history remembers)

pub returns-in-None-clause-reply : goal.returns-in-None-clause-reply
returns-in-None-clause-reply g c = λ history remembers.
    let s : Session = session_of c.args.self.now history in
    let given : None ≡ unknown_in s (operand_seen c.args.id) =
    sym c.in-None.is ∙ (c.in_ok-text.ensures s ∙ ap (λ (t : Session). unknown_in t (operand_seen c.args.id)) (c.lookup.ensures.session history)) in
    subst (λ (o : Option (List ℕ)). Responds c.args.self.now.agent.parts.settings.watch c.args.self.now.agent.mid_line (response_by c.args.origin.now.source.now c.args.origin.now.line s (unless_unknown o (does (lists_elements s (operand_seen c.args.id)))))
    c.list_given.new.self c.args.out.now c.list_given.new.out c.list_given.result)
    given (c.list_given.ensures.reply history remembers)
