use Rattle.std.proofs.Common.{◌≡◌, ◌∙◌, true, List, ℕ, Option, Some, None, sym, ap, subst}
use Rattle.defs_run.specs.Inputs.{added, first_unknown, spelled, unless_unknown}
use Rattle.defs_run.specs.Sessions.{Session}
use Rattle.command_orders.specs.Asked.{operand_seen}
use Rattle.soar_agent.specs.Carries.{Responds, response_by}
use Rattle.soar_agent.specs.States.{session_of}
use Rattle.soar_agent.proofs.state.Session.add.Goals as goal

pub returns-in-Some-clause-reply : goal.returns-in-Some-clause-reply
returns-in-Some-clause-reply g c = λ history remembers.
    let s : Session = session_of c.args.self.now history in
    let first : Session → Option (List ℕ) = λ t. first_unknown true t (operand_seen c.args.addition.id) (operand_seen c.args.addition.attr) (operand_seen c.args.addition.value) in
    let unknown : Some c.as_str.result.now ≡ first s = ap Some c.as_str.ensures ∙ (sym c.in-Some.is ∙ (c.in_ok-text.ensures s ∙ ap first (c.lookup.ensures.session history))) in
    subst (λ (o : Option (List ℕ)). Responds c.args.self.now.agent.parts.settings.watch c.args.self.now.agent.mid_line (response_by c.args.origin.now.source.now c.args.origin.now.line s
    (unless_unknown o (added (spelled s (operand_seen c.args.addition.id) (operand_seen c.args.addition.attr) (operand_seen c.args.addition.value)))))
    c.refuse_with.new.self c.args.out.now c.refuse_with.new.out c.refuse_with.result)
    unknown (c.refuse_with.ensures.reply history remembers)

pub add_given-requires-clause-given : goal.add_given-requires-clause-given
add_given-requires-clause-given g c = λ history.
    let first : Session → Option (List ℕ) = λ t. first_unknown true t (operand_seen c.args.addition.id) (operand_seen c.args.addition.attr) (operand_seen c.args.addition.value) in
    sym (sym c.in-None.is ∙ (c.in_ok-text.ensures (session_of c.args.self.now history) ∙ ap first (c.lookup.ensures.session history)))

pub returns-in-None-clause-reply : goal.returns-in-None-clause-reply
returns-in-None-clause-reply g c = λ history remembers.
    let s : Session = session_of c.args.self.now history in
    let first : Session → Option (List ℕ) = λ t. first_unknown true t (operand_seen c.args.addition.id) (operand_seen c.args.addition.attr) (operand_seen c.args.addition.value) in
    let given : None ≡ first s = sym c.in-None.is ∙ (c.in_ok-text.ensures s ∙ ap first (c.lookup.ensures.session history)) in
    subst (λ (o : Option (List ℕ)). Responds c.args.self.now.agent.parts.settings.watch c.args.self.now.agent.mid_line (response_by c.args.origin.now.source.now c.args.origin.now.line s
    (unless_unknown o (added (spelled s (operand_seen c.args.addition.id) (operand_seen c.args.addition.attr) (operand_seen c.args.addition.value)))))
    c.add_given.new.self c.args.out.now c.add_given.new.out c.add_given.result)
    given (c.add_given.ensures.reply history remembers)
