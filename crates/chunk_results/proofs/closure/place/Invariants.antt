use Rattle.std.proofs.Common.{◌≡◌, ◌+◌, drop}
use Rattle.std.specs.List.{prefix_len}
use Rattle.chunk_results.specs.Placed.{is_behind}
use Rattle.chunk_results.specs.Reached.{AreRowsKnown}
use Rattle.chunk_results.proofs.closure.place.Given as goal

abbrev pub invariant-rows : goal.invariant-rows
invariant-rows l = record {
  known : AreRowsKnown l.table (drop l.at l.rows);
  passed : prefix_len (is_behind l.table l.row) l.rows ≡ l.at + prefix_len (is_behind l.table l.row) (drop l.at l.rows);
}
