use Rattle.std.proofs.Common.{◌≡◌, Option, None, Some, map, refl, sym, subst}
use Rattle.soar_sym.specs.declared.symbol.Sym.{Sym}
use Rattle.defs_run.specs.Sessions.{label_in, labelled, resolved}
use Rattle.defs_run.specs.declared.form.Operand.{Operand}
use Rattle.command_orders.specs.Asked.{operand_seen}
use Rattle.soar_agent.specs.Labels.{Makes}
use Rattle.soar_agent.specs.Numbered.{IsOperandNumbered}
use Rattle.command_labels.specs.Found.{label_seen}
use Rattle.soar_agent.specs.States.{session_of}
use Rattle.soar_agent.proofs.ReadyLemmas.{label_numbered, letters_same}
use Rattle.soar_agent.proofs.state.Session.resolve.Goals as goal

pub returns-in-Some-clause-known : goal.returns-in-Some-clause-known
returns-in-Some-clause-known g c = c.in-Some.ensures.known c.args.self.now.agent.parts.table

pub returns-in-Symbol-clause-numbered : goal.returns-in-Symbol-clause-numbered
returns-in-Symbol-clause-numbered g c = λ numbered. subst (IsOperandNumbered c.args.self.now.agent.parts.letters) c.in-Symbol.is numbered

pub returns-in-Symbol-clause-letters : goal.returns-in-Symbol-clause-letters
returns-in-Symbol-clause-letters g c = letters_same c.args.self.now.agent.parts.letters c.args.self.now.agent.parts.letters refl

pub returns-in-Some-clause-numbered : goal.returns-in-Some-clause-numbered
returns-in-Some-clause-numbered g c = λ numbered.
    let some : label_in (map label_seen c.args.self.now.labels) c.in-Label.name ≡ Some c.in-Some.symbol = cc (c.in-Some.ensures.symbol, c.as_str.ensures) in
    label_numbered c.args.self.now.agent.parts.letters c.args.self.now.labels c.in-Label.name c.in-Some.symbol c.requires.ready.3 some

pub returns-in-Some-clause-letters : goal.returns-in-Some-clause-letters
returns-in-Some-clause-letters g c = letters_same c.args.self.now.agent.parts.letters c.args.self.now.agent.parts.letters refl

pub returns-in-None-clause-numbered : goal.returns-in-None-clause-numbered
returns-in-None-clause-numbered g c = λ numbered. c.make_label.ensures.numbered

pub returns-in-None-clause-symbol : goal.returns-in-None-clause-symbol
returns-in-None-clause-symbol g c = λ history remembers.
    let none : None ≡ label_in (map label_seen c.args.self.now.labels) c.in-Label.name = cc (c.in-None.ensures.symbol, c.as_str.ensures) in
    subst (λ (o : Operand). Makes c.make_label.new.self (resolved (session_of c.args.self.now history) (operand_seen o)) history c.make_label.result) (sym c.in-Label.is)
    (subst (λ (o : Option Sym). Makes c.make_label.new.self (labelled (session_of c.args.self.now history) c.in-Label.name o) history c.make_label.result) none (c.make_label.ensures.symbol history remembers))
