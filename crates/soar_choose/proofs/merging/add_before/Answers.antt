use Rattle.soar_choose.proofs.RowLemmas.{symbol_known_at}
use Rattle.soar_choose.proofs.merging.add_before.Goals as goal

pub compare-requires-clause-second : goal.compare-requires-clause-second
compare-requires-clause-second c = symbol_known_at c.args.table.now c.args.symbols.now c.symbols.at c.symbols-test.true c.requires.all
