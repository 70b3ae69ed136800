use Rattle.std.proofs.Common.{◌≡◌, drop}
use Rattle.defs_soar.specs.Ungrounded.{first_without}
use Rattle.chunk_grounds.proofs.unplaced.first_without.Given as goal

abbrev pub invariant-symbols : goal.invariant-symbols
invariant-symbols l = first_without l.places (drop l.symbol-index l.symbols) ≡ first_without l.places l.symbols
