use Rattle.std.proofs.Common.{◌≡◌, ◌+◌, drop, map}
use Rattle.std.specs.BTreeSet.{keys}
use Rattle.dependency_tables.specs.Tables.{first_with, is_among}
use Rattle.dependency_tables.proofs.finding.first_with.Given as goal

abbrev pub invariant-tables : goal.invariant-tables
invariant-tables l = first_with (is_among l.tags) (l.below + 2) (map keys (drop l.below l.tables)) ≡ first_with (is_among l.tags) 2 (map keys l.tables)
