-- the preferences so far, and those that are read from here
use Rattle.std.proofs.Common.{length}
use Rattle.defs_read.specs.ReadingActions.{begins_wish, wish_at}
use Rattle.tree_parts.specs.Known.{is_wish_known}
use Rattle.tree_parts.specs.Seen.{wish_seen}
use Rattle.tree_parts.specs.Underway.{UnderwayMany}
use Rattle.tree_parts.proofs.reader.Reader.wishes.Given as goal

abbrev pub invariant-wishes : goal.invariant-wishes
invariant-wishes l = UnderwayMany begins_wish (wish_at l.depth) (wish_seen l.self) (is_wish_known l.self) l.self l.fn.tokens l.wishes l.rest

abbrev pub decreases-wishes : goal.decreases-wishes
decreases-wishes l = length l.rest
