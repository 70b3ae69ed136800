use Rattle.std.proofs.Common.{arith, ◌-◌, subst, sym, List}
use Rattle.soar_sym.specs.declared.symbol.Sym.{Sym}
use Rattle.soar_rule.specs.Symbols.{AreKnown}
use Rattle.firing_records.proofs.AmongLemmas.{known_at, known_order_after}
use Rattle.firing_records.proofs.among.in_order.Goals as goal

pub add_symbol-requires-clause-all : goal.add_symbol-requires-clause-all
add_symbol-requires-clause-all c =
    let P : List Sym → Type 0 = AreKnown c.args.table.now in
    subst P (sym c.symbols.invariant) (known_order_after c.args.table.now c.symbols.at c.args.symbols.now c.requires)

pub add_symbol-requires-clause-one : goal.add_symbol-requires-clause-one
add_symbol-requires-clause-one c = known_at c.args.table.now c.args.symbols.now (c.symbols.at - 1) (omega arith) c.requires
