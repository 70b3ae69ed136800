use Rattle.std.proofs.Common.{◌≡◌, drop, map}
use Rattle.std.specs.BTreeSet.{keys}
use Rattle.dependency_tables.specs.Places.{each_from}
use Rattle.dependency_tables.specs.Tables.{each_with_tags}
use Rattle.dependency_tables.proofs.adding.add_each.Given as goal

abbrev pub invariant-tags : goal.invariant-tags
invariant-tags l = each_from l.place (map keys l.tables.items) (drop l.place l.tags) ≡ each_with_tags (map keys l.initial.tables.items) l.tags
