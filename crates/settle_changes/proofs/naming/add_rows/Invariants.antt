use Rattle.std.proofs.Common.{◌≡◌, ◌++◌, map, take}
use Rattle.settle_changes.specs.Naming.{plain_of}
use Rattle.settle_changes.proofs.naming.add_rows.Given as goal

abbrev pub invariant-rows : goal.invariant-rows
invariant-rows l = l.names ≡ l.initial.names ++ map plain_of (take l.row-index l.rows)
