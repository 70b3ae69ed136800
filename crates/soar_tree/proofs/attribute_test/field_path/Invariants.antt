-- the fields of a path so far, and those that are read from here
use Rattle.std.proofs.Common.{length}
use Rattle.defs_read.specs.Reading.{step_at}
use Rattle.defs_read.specs.ReadingTokens.{is_mark}
use Rattle.tree_parts.specs.Known.{is_field_known}
use Rattle.tree_parts.specs.Seen.{field_seen}
use Rattle.tree_parts.specs.Underway.{UnderwayMany}
use Rattle.soar_tree.proofs.attribute_test.field_path.Given as goal

abbrev pub invariant-path : goal.invariant-path
invariant-path l = UnderwayMany (is_mark 46) (step_at l.depth) (field_seen l.reader) (is_field_known l.reader) l.reader l.fn.tokens l.path l.rest

abbrev pub decreases-path : goal.decreases-path
decreases-path l = length l.rest
