-- the values with their preferences so far, and those that are read from here
use Rattle.std.proofs.Common.{length}
use Rattle.defs_read.specs.ReadingActions.{item_at}
use Rattle.defs_read.specs.ReadingValues.{begins_term}
use Rattle.tree_parts.specs.Known.{is_item_known}
use Rattle.tree_parts.specs.Seen.{item_seen}
use Rattle.tree_parts.specs.Underway.{UnderwayMany}
use Rattle.tree_parts.proofs.reader.Reader.items.Given as goal

abbrev pub invariant-items : goal.invariant-items
invariant-items l = UnderwayMany begins_term (item_at l.depth) (item_seen l.self) (is_item_known l.self) l.self l.fn.tokens l.items l.rest

abbrev pub decreases-items : goal.decreases-items
decreases-items l = length l.rest
