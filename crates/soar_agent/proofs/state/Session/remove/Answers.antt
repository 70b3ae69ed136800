use Rattle.std.proofs.Common.{◌∙◌, Some, None, Option, ap, subst, sym}
use Rattle.soar_wm.specs.WorkingMemory.{WorkingMemory, element_of}
use Rattle.soar_wm.specs.declared.element.Element.{Element}
use Rattle.defs_run.specs.Inputs.{Carried, refuses, removed}
use Rattle.defs_run.specs.Orders.{no_element}
use Rattle.defs_run.specs.Sessions.{Session}
use Rattle.soar_agent.specs.Carries.{Responds, response_by}
use Rattle.soar_agent.specs.States.{session_of}
use Rattle.soar_agent.proofs.ReadyLemmas.{element_numbered}
use Rattle.soar_agent.proofs.SoundLemmas.{element_known}
use Rattle.soar_agent.proofs.state.Session.remove.Goals as goal

pub remove_element-requires-clause-known : goal.remove_element-requires-clause-known
remove_element-requires-clause-known g c =
    element_known c.args.self.now.agent.parts.table c.args.tag c.args.self.now.agent.parts.memory.elements c.in-Some.element c.requires.1.elements_known
    (sym (c.in-Some.ensures ∙ ap (λ (m : WorkingMemory). element_of c.args.tag m.elements) c.memory.ensures))

pub remove_element-requires-clause-numbered : goal.remove_element-requires-clause-numbered
remove_element-requires-clause-numbered g c =
    element_numbered c.args.self.now.agent.parts c.args.tag c.in-Some.element c.requires.2
    (sym (c.in-Some.ensures ∙ ap (λ (m : WorkingMemory). element_of c.args.tag m.elements) c.memory.ensures))

pub returns-in-Some-clause-reply : goal.returns-in-Some-clause-reply
returns-in-Some-clause-reply g c = λ history remembers.
    let s : Session = session_of c.args.self.now history in
    subst (λ (o : Option Element). Responds c.args.self.now.agent.parts.settings.watch c.args.self.now.agent.mid_line (response_by c.args.origin.now.source.now c.args.origin.now.line s (elim o as (λ _. Carried) [ None ↦ refuses (no_element c.args.tag) | Some e ↦ removed s e ]))
    c.remove_element.new.self c.args.out.now c.remove_element.new.out c.remove_element.result)
    (c.in-Some.ensures ∙ ap (λ (m : WorkingMemory). element_of c.args.tag m.elements) c.memory.ensures) (c.remove_element.ensures.reply history remembers)

pub returns-in-None-clause-reply : goal.returns-in-None-clause-reply
returns-in-None-clause-reply g c = λ history remembers.
    let s : Session = session_of c.args.self.now history in
    subst (λ (o : Option Element). Responds c.args.self.now.agent.parts.settings.watch c.args.self.now.agent.mid_line (response_by c.args.origin.now.source.now c.args.origin.now.line s (elim o as (λ _. Carried) [ None ↦ refuses (no_element c.args.tag) | Some e ↦ removed s e ]))
    c.refuse_with.new.self c.args.out.now c.refuse_with.new.out c.refuse_with.result)
    (c.in-None.ensures ∙ ap (λ (m : WorkingMemory). element_of c.args.tag m.elements) c.memory.ensures) (c.refuse_with.ensures.reply history remembers)
