use Rattle.std.proofs.Common.{◌≡◌, drop}
use Rattle.std.specs.List.{list_any}
use Rattle.dependency_tables.specs.Tables.{is_among}
use Rattle.dependency_tables.proofs.finding.is_any_among.Given as goal

abbrev pub invariant-tags : goal.invariant-tags
invariant-tags l = list_any (is_among l.table.keys) (drop l.tag-index l.tags) ≡ list_any (is_among l.table.keys) l.tags
