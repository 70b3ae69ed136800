use Rattle.std.proofs.Common.{drop}
use Rattle.soar_choose.specs.Rows.{AreInRange, AreKnown}
use Rattle.decision_tests.proofs.choice.slot.are_fit.Given as goal

abbrev pub invariant-rows : goal.invariant-rows
invariant-rows l = record {
  known : AreKnown l.table (drop l.row-index l.rows) → AreKnown l.table l.rows;
  range : AreInRange (drop l.row-index l.rows) → AreInRange l.rows;
}
