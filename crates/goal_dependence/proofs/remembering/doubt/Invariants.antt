use Rattle.std.proofs.Common.{◌≡◌, ◌++◌, drop}
use Rattle.dependency_tables.specs.Tables.{all_tags}
use Rattle.goal_dependence.proofs.remembering.doubt.Given as goal

abbrev pub invariant-tags : goal.invariant-tags
invariant-tags l = l.doubted ++ all_tags (drop l.more-index l.tags) ≡ l.initial.doubted ++ all_tags l.tags
