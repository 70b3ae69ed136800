use Rattle.std.proofs.Common.{◌≡◌, Bool, true, false, filter, not, sym, subst}
use Rattle.std.specs.Prelude.{if◌then◌else◌}
use Rattle.soar_sym.specs.declared.symbol.Triple.{Triple}
use Rattle.soar_wm.specs.WorkingMemory.{triple_of}
use Rattle.defs_soar.specs.Values.{triple_eq, has_triple_among}
use Rattle.defs_run.specs.Inputs.{does, refuses, with_inputs}
use Rattle.defs_run.specs.Orders.{not_an_input}
use Rattle.defs_run.specs.Sessions.{Session}
use Rattle.soar_agent.specs.Carries.{Obeys, Responds, response_by}
use Rattle.soar_agent.specs.States.{session_of}
use Rattle.soar_agent.proofs.state.Session.remove_element.Goals as goal

pub returns-then-is_input-clause-reply : goal.returns-then-is_input-clause-reply
returns-then-is_input-clause-reply g c = λ history remembers.
    let s : Session = session_of c.args.self.now history in
    let among : has_triple_among c.args.self.now.agent.parts.inputs (triple_of c.args.element) ≡ true = cc (c.is_input.ensures, c.triple_of-triple.ensures, c.if-is_input.true) in
    subst (λ (b : Bool). Responds c.args.self.now.agent.parts.settings.watch c.args.self.now.agent.mid_line
    (response_by c.args.origin.now.source.now c.args.origin.now.line s (if b then does (with_inputs (filter (λ t. not (triple_eq t (triple_of c.args.element))) s.agent.holding.inputs) s) else refuses (not_an_input c.args.element.tag)))
    c.change_inputs.new.self c.args.out.now c.change_inputs.new.out c.change_inputs.result)
    (sym among)
    (subst (λ (u : Triple). Obeys c.args.self.now.agent.parts.settings.watch c.args.self.now.agent.mid_line (with_inputs (filter (λ t. not (triple_eq t u)) c.args.self.now.agent.parts.inputs) s) c.change_inputs.new.self c.args.out.now c.change_inputs.new.out c.change_inputs.result)
    c.triple_of-triple.ensures (c.change_inputs.ensures.reply history remembers))

pub returns-else-is_input-clause-reply : goal.returns-else-is_input-clause-reply
returns-else-is_input-clause-reply g c = λ history remembers.
    let s : Session = session_of c.args.self.now history in
    let among : has_triple_among c.args.self.now.agent.parts.inputs (triple_of c.args.element) ≡ false = cc (c.is_input.ensures, c.triple_of-triple.ensures, c.if-is_input.false) in
    subst (λ (b : Bool). Responds c.args.self.now.agent.parts.settings.watch c.args.self.now.agent.mid_line
    (response_by c.args.origin.now.source.now c.args.origin.now.line s (if b then does (with_inputs (filter (λ t. not (triple_eq t (triple_of c.args.element))) s.agent.holding.inputs) s) else refuses (not_an_input c.args.element.tag)))
    c.refuse_with.new.self c.args.out.now c.refuse_with.new.out c.refuse_with.result)
    (sym among) (c.refuse_with.ensures.reply history remembers)
