-- the tests of attributes so far, and those that are read from here
use Rattle.std.proofs.Common.{length}
use Rattle.defs_read.specs.Reading.{attribute_test_at, begins_test}
use Rattle.tree_parts.specs.Known.{is_attribute_test_known}
use Rattle.tree_parts.specs.Seen.{attribute_test_seen}
use Rattle.tree_parts.specs.Underway.{UnderwayMany}
use Rattle.soar_tree.proofs.group.attribute_tests.Given as goal

abbrev pub invariant-tests : goal.invariant-tests
invariant-tests l = UnderwayMany begins_test (attribute_test_at l.depth) (attribute_test_seen l.reader) (is_attribute_test_known l.reader) l.reader l.fn.tokens l.tests l.rest

abbrev pub decreases-tests : goal.decreases-tests
decreases-tests l = length l.rest
