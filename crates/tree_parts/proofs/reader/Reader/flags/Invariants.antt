-- the flags so far, and those that are read from here
use Rattle.std.proofs.Common.{true, false, length}
use Rattle.defs_read.specs.Readers.{begins, taken}
use Rattle.defs_read.specs.Reading.{as_flag, may_follow, with_flag}
use Rattle.tree_parts.specs.Reading.{seen_flags}
use Rattle.tree_parts.specs.Seen.{flag_seen}
use Rattle.tree_parts.specs.Underway.{Underway}
use Rattle.tree_parts.proofs.reader.Reader.flags.Given as goal

abbrev pub invariant-flags : goal.invariant-flags
invariant-flags l =
    Underway (λ s ts. begins (may_follow s) ts) with_flag (taken as_flag) (record { support = false; kind = false }) flag_seen (λ flag. true) l.self l.fn.tokens (seen_flags l.seen) l.flags l.rest

abbrev pub decreases-flags : goal.decreases-flags
decreases-flags l = length l.rest
