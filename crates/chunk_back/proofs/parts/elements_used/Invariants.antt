use Rattle.std.proofs.Common.{◌≡◌, drop, flat_map}
use Rattle.defs_soar.specs.Explanation.{by_tag}
use Rattle.chunk_back.specs.Parts.{elements_of, uses_of}
use Rattle.chunk_back.proofs.parts.elements_used.Given as goal

abbrev pub invariant-numbers : goal.invariant-numbers
invariant-numbers g l = l.tagged ≡ by_tag (flat_map (elements_of l.way) (uses_of (g.K.Keeps.kept l.kept) (drop l.at l.numbers)))
