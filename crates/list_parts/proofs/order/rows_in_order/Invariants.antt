use Rattle.std.proofs.Common.{◌≡◌, drop}
use Rattle.defs_run.specs.Listing.{rows_in_order}
use Rattle.list_parts.proofs.order.rows_in_order.Given as goal

abbrev pub invariant-rows : goal.invariant-rows
invariant-rows l = l.ordered.items ≡ rows_in_order l.table (drop l.at l.rows)
