-- the values so far, and those that are read from here
use Rattle.std.proofs.Common.{length}
use Rattle.defs_read.specs.Reading.{value_test_at}
use Rattle.defs_read.specs.ReadingFields.{begins_field}
use Rattle.tree_parts.specs.Known.{is_value_test_known}
use Rattle.tree_parts.specs.Seen.{value_test_seen}
use Rattle.tree_parts.specs.Underway.{UnderwayMany}
use Rattle.soar_tree.proofs.attribute_test.value_tests.Given as goal

abbrev pub invariant-values : goal.invariant-values
invariant-values l = UnderwayMany begins_field (value_test_at l.depth) (value_test_seen l.reader) (is_value_test_known l.reader) l.reader l.fn.tokens l.values l.rest

abbrev pub decreases-values : goal.decreases-values
decreases-values l = length l.rest
