-- the values so far, and those that are read from here
use Rattle.std.proofs.Common.{length}
use Rattle.defs_read.specs.ReadingValues.{begins_term, term_at}
use Rattle.tree_parts.specs.Known.{is_term_known}
use Rattle.tree_parts.specs.Seen.{term_seen}
use Rattle.tree_parts.specs.Underway.{UnderwayMany}
use Rattle.tree_parts.proofs.reader.Reader.terms.Given as goal

abbrev pub invariant-values : goal.invariant-values
invariant-values l = UnderwayMany begins_term (term_at l.depth) (term_seen l.self) (is_term_known l.self) l.self l.fn.tokens l.values l.rest

abbrev pub decreases-values : goal.decreases-values
decreases-values l = length l.rest
