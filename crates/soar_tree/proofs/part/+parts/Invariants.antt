-- the conditions so far, and those that are read from here
use Rattle.std.proofs.Common.{◌+◌, ◌*◌, length}
use Rattle.defs_read.specs.Reading.{begins_part, part_at}
use Rattle.tree_parts.specs.Known.{is_part_known}
use Rattle.tree_parts.specs.Seen.{part_seen}
use Rattle.tree_parts.specs.Underway.{UnderwayMany}
use Rattle.soar_tree.proofs.part.+parts.Given as goal

abbrev pub decreases-part : goal.decreases-part
decreases-part l = 3 * l.depth

abbrev pub decreases-joined : goal.decreases-joined
decreases-joined l = 3 * l.depth + 2

abbrev pub decreases-parts : goal.decreases-parts
decreases-parts l = 3 * l.depth + 1

abbrev pub invariant-parts-parts : goal.invariant-parts-parts
invariant-parts-parts l = UnderwayMany begins_part (part_at l.depth) (part_seen l.reader) (is_part_known l.reader) l.reader l.fn.tokens l.parts l.rest

abbrev pub decreases-parts-parts : goal.decreases-parts-parts
decreases-parts-parts l = length l.rest
