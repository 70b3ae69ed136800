-- the values of a path so far, and those that are read from here
use Rattle.std.proofs.Common.{length}
use Rattle.defs_read.specs.ReadingActions.{term_step_at}
use Rattle.defs_read.specs.ReadingTokens.{is_mark}
use Rattle.tree_parts.specs.Known.{is_term_known}
use Rattle.tree_parts.specs.Seen.{term_seen}
use Rattle.tree_parts.specs.Underway.{UnderwayMany}
use Rattle.soar_tree.proofs.make.term_path.Given as goal

abbrev pub invariant-path : goal.invariant-path
invariant-path l = UnderwayMany (is_mark 46) (term_step_at l.depth) (term_seen l.reader) (is_term_known l.reader) l.reader l.fn.tokens l.path l.rest

abbrev pub decreases-path : goal.decreases-path
decreases-path l = length l.rest
