use Rattle.std.proofs.Common.{◌≡◌, drop, flat_map}
use Rattle.defs_soar.specs.Explanation.{item_of, namings_in_order}
use Rattle.chunk_back.specs.Parts.{uses_of}
use Rattle.chunk_back.proofs.named.items_used.Given as goal

abbrev pub invariant-numbers : goal.invariant-numbers
invariant-numbers g l = l.items ≡ namings_in_order (flat_map item_of (uses_of (g.K.Keeps.kept l.kept) (drop l.at l.numbers)))
