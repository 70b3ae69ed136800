-- the attributes that are made so far, and those that are read from here
use Rattle.std.proofs.Common.{length}
use Rattle.defs_read.specs.ReadingActions.{make_at}
use Rattle.defs_read.specs.ReadingTokens.{is_mark}
use Rattle.tree_parts.specs.Known.{is_attribute_make_known}
use Rattle.tree_parts.specs.Seen.{attribute_make_seen}
use Rattle.tree_parts.specs.Underway.{UnderwayMany}
use Rattle.soar_tree.proofs.make.makes.Given as goal

abbrev pub invariant-makes : goal.invariant-makes
invariant-makes l = UnderwayMany (is_mark 94) (make_at l.depth) (attribute_make_seen l.reader) (is_attribute_make_known l.reader) l.reader l.fn.tokens l.makes l.rest

abbrev pub decreases-makes : goal.decreases-makes
decreases-makes l = length l.rest
