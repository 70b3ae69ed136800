use Rattle.std.proofs.Common.{◌≡◌, Option, Some, None, map, sym, subst}
use Rattle.soar_sym.specs.declared.symbol.Sym.{Sym}
use Rattle.soar_sym.specs.declared.symbol.Triple.{Triple}
use Rattle.soar_wm.specs.WorkingMemory.{tag_of}
use Rattle.defs_soar.specs.Naming.{letter_from}
use Rattle.defs_run.specs.Inputs.{Spelled}
use Rattle.defs_run.specs.Sessions.{Session, label_in, labelled}
use Rattle.defs_run.specs.declared.form.Operand.{Operand}
use Rattle.command_orders.specs.Asked.{operand_seen}
use Rattle.command_labels.specs.Found.{label_seen}
use Rattle.soar_agent.specs.Adding.{adds_by, adds_triple, spelled_by, unless_twice}
use Rattle.soar_agent.specs.Carries.{Carries, Responds, response_by}
use Rattle.soar_agent.specs.Numbered.{IsOperandNumbered, IsTripleNumbered}
use Rattle.soar_agent.specs.States.{session_of}
use Rattle.soar_cycle.specs.Calls.{IsTripleKnown}
use Rattle.soar_agent.proofs.AddingLemmas.{missing_put, next_is_new}
use Rattle.soar_agent.proofs.ReadyLemmas.{label_numbered}
use Rattle.soar_agent.proofs.state.Session.add_value.Goals as goal

pub add_triple-requires-in-Some-clause-known : goal.add_triple-requires-in-Some-clause-known
add_triple-requires-in-Some-clause-known g c =
    subst (IsTripleKnown c.args.self.now.agent.parts.table) (sym c.with-in-Some.ensures) (c.requires.id, c.requires.attr, c.in-Some.ensures.known c.args.self.now.agent.parts.table)

pub add_triple-requires-clause-numbered : goal.add_triple-requires-clause-numbered
add_triple-requires-clause-numbered g c =
    let letters = c.args.self.now.agent.parts.letters in
    subst (IsTripleNumbered letters) (sym c.with.ensures) (c.requires.slot_numbered.0, c.requires.slot_numbered.1, subst (IsOperandNumbered letters) c.in-Symbol.is c.requires.value_numbered)

pub add_triple-requires-in-Some-clause-numbered : goal.add_triple-requires-in-Some-clause-numbered
add_triple-requires-in-Some-clause-numbered g c =
    let letters = c.args.self.now.agent.parts.letters in
    let some : label_in (map label_seen c.args.self.now.labels) c.in-Label.name ≡ Some c.in-Some.value = cc (c.in-Some.ensures.symbol, c.as_str.ensures) in
    subst (IsTripleNumbered letters) (sym c.with-in-Some.ensures)
    (c.requires.slot_numbered.0, c.requires.slot_numbered.1, label_numbered letters c.args.self.now.labels c.in-Label.name c.in-Some.value c.requires.ready.3 some)

pub returns-in-Symbol-clause-reply : goal.returns-in-Symbol-clause-reply
returns-in-Symbol-clause-reply g c =
    subst (λ (o : Operand). Carries c.args.self.now c.add_triple.new.self c.args.origin.now.source.now c.args.origin.now.line (adds_by c.args.slot.id c.args.slot.attr (operand_seen o)) c.args.out.now c.add_triple.new.out c.add_triple.result)
    (sym c.in-Symbol.is)
    (subst (λ (t : Triple). Carries c.args.self.now c.add_triple.new.self c.args.origin.now.source.now c.args.origin.now.line (adds_triple t) c.args.out.now c.add_triple.new.out c.add_triple.result)
    c.with.ensures c.add_triple.ensures.reply)

pub returns-in-Some-clause-reply : goal.returns-in-Some-clause-reply
returns-in-Some-clause-reply g c = λ history remembers.
    let s : Session = session_of c.args.self.now history in
    let some : Some c.in-Some.value ≡ label_in (map label_seen c.args.self.now.labels) c.in-Label.name = cc (c.in-Some.ensures.symbol, c.as_str.ensures) in
    subst (λ (o : Operand). Responds c.args.self.now.agent.parts.settings.watch c.args.self.now.agent.mid_line (response_by c.args.origin.now.source.now c.args.origin.now.line s (adds_by c.args.slot.id c.args.slot.attr (operand_seen o) s))
    c.add_triple-in-Some.new.self c.args.out.now c.add_triple-in-Some.new.out c.add_triple-in-Some.result)
    (sym c.in-Label.is)
    (subst (λ (o : Option Sym). Responds c.args.self.now.agent.parts.settings.watch c.args.self.now.agent.mid_line (response_by c.args.origin.now.source.now c.args.origin.now.line s (unless_twice (spelled_by c.args.slot.id c.args.slot.attr (labelled s c.in-Label.name o))))
    c.add_triple-in-Some.new.self c.args.out.now c.add_triple-in-Some.new.out c.add_triple-in-Some.result)
    some
    (subst (λ (t : Triple). Responds c.args.self.now.agent.parts.settings.watch c.args.self.now.agent.mid_line (response_by c.args.origin.now.source.now c.args.origin.now.line s (adds_triple t s)) c.add_triple-in-Some.new.self c.args.out.now c.add_triple-in-Some.new.out c.add_triple-in-Some.result)
    c.with-in-Some.ensures (c.add_triple-in-Some.ensures.reply history remembers)))

pub returns-in-None-clause-reply : goal.returns-in-None-clause-reply
returns-in-None-clause-reply g c = λ history remembers.
    let s : Session = session_of c.args.self.now history in
    let none : None ≡ label_in (map label_seen c.args.self.now.labels) c.in-Label.name = cc (c.in-None.ensures.symbol, c.as_str.ensures) in
    let t : Spelled = spelled_by c.args.slot.id c.args.slot.attr (labelled s c.in-Label.name None) in
    let missing : tag_of t.triple c.args.self.now.agent.parts.memory.elements ≡ None =
    next_is_new c.args.self.now.agent.parts c.args.slot.id c.args.slot.attr (letter_from c.in-Label.name) c.requires.ready.2 in
    subst (λ (o : Operand). Responds c.args.self.now.agent.parts.settings.watch c.args.self.now.agent.mid_line (response_by c.args.origin.now.source.now c.args.origin.now.line s (adds_by c.args.slot.id c.args.slot.attr (operand_seen o) s))
    c.put_labelled.new.self c.args.out.now c.put_labelled.new.out c.put_labelled.result)
    (sym c.in-Label.is)
    (subst (λ (o : Option Sym). Responds c.args.self.now.agent.parts.settings.watch c.args.self.now.agent.mid_line (response_by c.args.origin.now.source.now c.args.origin.now.line s (unless_twice (spelled_by c.args.slot.id c.args.slot.attr (labelled s c.in-Label.name o))))
    c.put_labelled.new.self c.args.out.now c.put_labelled.new.out c.put_labelled.result)
    none
    (missing_put c.args.self.now c.put_labelled.new.self c.args.origin.now.source.now c.args.origin.now.line t s (tag_of t.triple c.args.self.now.agent.parts.memory.elements)
    c.args.out.now c.put_labelled.new.out c.put_labelled.result missing (c.put_labelled.ensures.reply history remembers)))
