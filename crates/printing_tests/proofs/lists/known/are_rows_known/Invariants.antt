use Rattle.std.proofs.Common.{drop}
use Rattle.soar_settle.specs.Known.{AreRowsKnown}
use Rattle.printing_tests.proofs.lists.known.are_rows_known.Given as goal

abbrev pub invariant-rows : goal.invariant-rows
invariant-rows l = AreRowsKnown l.table (drop l.row-index l.rows) → AreRowsKnown l.table l.rows
