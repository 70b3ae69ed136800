use Rattle.std.proofs.Common.{◌≡◌, drop, flat_map}
use Rattle.chunk_back.specs.Parts.{elements_of, with_elements}
use Rattle.chunk_back.proofs.parts.add_used.Given as goal

abbrev pub invariant-used : goal.invariant-used
invariant-used l = l.tagged ≡ with_elements (flat_map (elements_of l.way) (drop l.at l.used)) l.initial.tagged
