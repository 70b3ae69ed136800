use Rattle.std.proofs.Common.{◌≡◌, ◌++◌, take, drop}
use Rattle.defs_run.specs.Listing.{with_row_at}
use Rattle.soar_settle.specs.Known.{AreRowsKnown}
use Rattle.list_parts.proofs.order.place.Given as goal

abbrev pub invariant-rows : goal.invariant-rows
invariant-rows l = record {
  known : AreRowsKnown l.table (drop l.at l.rows);
  whole : with_row_at l.table l.row l.rows ≡ take l.at l.rows ++ with_row_at l.table l.row (drop l.at l.rows);
}
