use Rattle.std.proofs.Common.{◌≡◌, Option, Some, IfOk, map, sym, subst}
use Rattle.soar_sym.specs.declared.symbol.Sym.{Sym}
use Rattle.defs_run.specs.Inputs.{unreached_in, unreached_label}
use Rattle.defs_run.specs.Sessions.{Session, label_in}
use Rattle.defs_run.specs.declared.form.Operand.{Operand}
use Rattle.command_orders.specs.Asked.{operand_seen}
use Rattle.command_labels.specs.Found.{label_seen}
use Rattle.session_parts.specs.Lookups.{session_with}
use Rattle.session_parts.proofs.lookup.Lookup.unreached_in.Goals as goal

pub unreached_symbol-requires-in-Some-clause-known : goal.unreached_symbol-requires-in-Some-clause-known
unreached_symbol-requires-in-Some-clause-known c = c.in-Some.ensures.known c.args.self.now.table.now

pub returns-in-Symbol : goal.returns-in-Symbol
returns-in-Symbol c = λ s.
    subst (λ (o : Operand). IfOk c.unreached_symbol.result (λ text. text ≡ unreached_in (session_with c.args.self.now s) (operand_seen o))) (sym c.in-Symbol.is)
    (c.unreached_symbol.ensures s)

pub returns-in-Some : goal.returns-in-Some
returns-in-Some c = λ s.
    let seen : Session = session_with c.args.self.now s in
    let some : Some c.in-Some.symbol ≡ label_in (map label_seen c.args.self.now.labels.now) c.in-Label.name = cc (c.in-Some.ensures.symbol, c.as_str.ensures) in
    subst (λ (o : Operand). IfOk c.unreached_symbol-in-Some.result (λ text. text ≡ unreached_in seen (operand_seen o))) (sym c.in-Label.is)
    (subst (λ (o : Option Sym). IfOk c.unreached_symbol-in-Some.result (λ text. text ≡ unreached_label seen c.in-Label.name o)) some (c.unreached_symbol-in-Some.ensures s))
