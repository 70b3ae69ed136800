use Rattle.std.proofs.Common.{◌≡◌, ◌∙◌, Some, None, [], sym, ap}
use Rattle.soar_wm.specs.WorkingMemory.{WorkingMemory, tag_of}
use Rattle.defs_run.specs.Sessions.{Session}
use Rattle.soar_agent.specs.States.{session_of}
use Rattle.soar_agent.proofs.AddingLemmas.{there_refused, missing_put, puts_triple}
use Rattle.soar_agent.proofs.state.Session.add_triple.Goals as goal

pub returns-in-Some-clause-reply : goal.returns-in-Some-clause-reply
returns-in-Some-clause-reply g c = λ history remembers.
    let s : Session = session_of c.args.self.now history in
    let there : tag_of c.args.triple c.args.self.now.agent.parts.memory.elements ≡ Some c.in-Some.tag =
    ap (λ (m : WorkingMemory). tag_of c.args.triple m.elements) (sym c.memory.ensures) ∙ sym c.in-Some.ensures in
    there_refused c.args.self.now c.refuse_with.new.self c.args.origin.now.source.now c.args.origin.now.line (record { session = s; triple = c.args.triple; totals = [] }) s
    (tag_of c.args.triple c.args.self.now.agent.parts.memory.elements) c.in-Some.tag c.args.out.now c.refuse_with.new.out c.refuse_with.result there (c.refuse_with.ensures.reply history remembers)

pub returns-in-None-clause-reply : goal.returns-in-None-clause-reply
returns-in-None-clause-reply g c = λ history remembers.
    let s : Session = session_of c.args.self.now history in
    let missing : tag_of c.args.triple c.args.self.now.agent.parts.memory.elements ≡ None =
    ap (λ (m : WorkingMemory). tag_of c.args.triple m.elements) (sym c.memory.ensures) ∙ sym c.in-None.ensures in
    missing_put c.args.self.now c.change_inputs.new.self c.args.origin.now.source.now c.args.origin.now.line (record { session = s; triple = c.args.triple; totals = [] }) s
    (tag_of c.args.triple c.args.self.now.agent.parts.memory.elements) c.args.out.now c.change_inputs.new.out c.change_inputs.result missing
    (puts_triple c.args.self.now c.change_inputs.new.self c.args.triple history c.args.out.now c.change_inputs.new.out c.change_inputs.result (c.change_inputs.ensures.reply history remembers))
