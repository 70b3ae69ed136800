-- the values so far, and those that are read from here
use Rattle.std.proofs.Common.{◌+◌, ◌*◌, length}
use Rattle.tree_parts.proofs.ValueLaws.{ArgumentsUnderway}
use Rattle.tree_parts.proofs.reader.Reader.+terms.Given as goal

abbrev pub decreases-term : goal.decreases-term
decreases-term l = 3 * l.depth

abbrev pub decreases-call : goal.decreases-call
decreases-call l = 3 * l.depth + 2

abbrev pub decreases-arguments : goal.decreases-arguments
decreases-arguments l = 3 * l.depth + 1

abbrev pub invariant-arguments-values : goal.invariant-arguments-values
invariant-arguments-values l = ArgumentsUnderway l.function l.depth l.self l.fn.tokens l.values l.rest

abbrev pub decreases-arguments-values : goal.decreases-arguments-values
decreases-arguments-values l = length l.rest
