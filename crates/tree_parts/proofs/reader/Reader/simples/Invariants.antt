-- the tests so far, and those that are read from here
use Rattle.std.proofs.Common.{length}
use Rattle.defs_read.specs.ReadingFields.{begins_simple, simple_at}
use Rattle.tree_parts.specs.Known.{is_simple_known}
use Rattle.tree_parts.specs.Seen.{simple_seen}
use Rattle.tree_parts.specs.Underway.{UnderwayMany}
use Rattle.tree_parts.proofs.reader.Reader.simples.Given as goal

abbrev pub invariant-simples : goal.invariant-simples
invariant-simples l = UnderwayMany begins_simple simple_at (simple_seen l.self) (is_simple_known l.self) l.self l.fn.tokens l.simples l.rest

abbrev pub decreases-simples : goal.decreases-simples
decreases-simples l = length l.rest
