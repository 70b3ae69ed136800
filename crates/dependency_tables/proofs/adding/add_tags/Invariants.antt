use Rattle.std.proofs.Common.{◌≡◌, drop}
use Rattle.dependency_tables.specs.Tables.{with_tags}
use Rattle.dependency_tables.proofs.adding.add_tags.Given as goal

abbrev pub invariant-tags : goal.invariant-tags
invariant-tags l = with_tags (drop l.tag-index l.tags) l.table.keys ≡ with_tags l.tags l.initial.table.keys
