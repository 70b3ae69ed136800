use Rattle.std.proofs.Common.{◌≡◌, take}
use Rattle.dependency_tables.specs.Tables.{all_tags}
use Rattle.wave_tests.proofs.trimming.one_each.Given as goal

abbrev pub invariant-tags : goal.invariant-tags
invariant-tags l = all_tags l.found ≡ take l.tag-index l.tags
