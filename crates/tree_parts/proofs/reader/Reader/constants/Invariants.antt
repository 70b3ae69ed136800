-- the constants so far, and those that are read from here
use Rattle.std.proofs.Common.{length}
use Rattle.defs_read.specs.Readers.{taken}
use Rattle.defs_read.specs.ReadingTokens.{as_constant, is_constant}
use Rattle.tree_parts.specs.Known.{is_constant_known}
use Rattle.tree_parts.specs.Seen.{constant_seen}
use Rattle.tree_parts.specs.Underway.{UnderwayMany}
use Rattle.tree_parts.proofs.reader.Reader.constants.Given as goal

abbrev pub invariant-constants : goal.invariant-constants
invariant-constants l = UnderwayMany is_constant (taken as_constant) (constant_seen l.self) (is_constant_known l.self) l.self l.fn.tokens l.constants l.rest

abbrev pub decreases-constants : goal.decreases-constants
decreases-constants l = length l.rest
