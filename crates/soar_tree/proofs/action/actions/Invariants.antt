-- the actions so far, and those that are read from here
use Rattle.std.proofs.Common.{length}
use Rattle.defs_read.specs.ReadingActions.{action_at}
use Rattle.defs_read.specs.ReadingTokens.{is_mark}
use Rattle.tree_parts.specs.Known.{is_action_known}
use Rattle.tree_parts.specs.Seen.{action_seen}
use Rattle.tree_parts.specs.Underway.{UnderwayMany}
use Rattle.soar_tree.proofs.action.actions.Given as goal

abbrev pub invariant-actions : goal.invariant-actions
invariant-actions l = UnderwayMany (is_mark 40) (action_at l.depth) (action_seen l.reader) (is_action_known l.reader) l.reader l.fn.tokens l.actions l.rest

abbrev pub decreases-actions : goal.decreases-actions
decreases-actions l = length l.rest
