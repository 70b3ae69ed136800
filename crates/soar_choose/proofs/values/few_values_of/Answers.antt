use Rattle.std.proofs.Common.{arith, ◌-◌, subst, sym, List}
use Rattle.soar_sym.specs.declared.symbol.Sym.{Sym}
use Rattle.soar_choose.specs.Parts.{AreSymbolsKnown}
use Rattle.soar_choose.proofs.RowLemmas.{known_at, known_values_after}
use Rattle.soar_choose.proofs.values.few_values_of.Goals as goal

pub add_symbol-requires-clause-all : goal.add_symbol-requires-clause-all
add_symbol-requires-clause-all c =
    let P : List Sym → Type 0 = AreSymbolsKnown c.args.table.now in
    subst P (sym c.rows.invariant) (known_values_after c.args.table.now c.args.kind c.rows.at c.args.rows.now c.requires)

pub add_symbol-requires-clause-one : goal.add_symbol-requires-clause-one
add_symbol-requires-clause-one c = known_at c.args.table.now c.args.rows.now (c.rows.at - 1) (omega arith) c.requires
