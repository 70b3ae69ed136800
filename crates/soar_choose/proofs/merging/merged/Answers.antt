use Rattle.soar_choose.proofs.RowLemmas.{symbol_known_at}
use Rattle.soar_choose.proofs.merging.merged.Goals as goal

pub add_before-requires-clause-one : goal.add_before-requires-clause-one
add_before-requires-clause-one c = symbol_known_at c.args.table.now c.args.a.now c.symbols.symbol-index c.symbols-test.true c.requires.first
