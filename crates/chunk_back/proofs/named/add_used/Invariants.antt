use Rattle.std.proofs.Common.{◌≡◌, drop, flat_map}
use Rattle.chunk_back.specs.Parts.{namings_of, with_namings}
use Rattle.chunk_back.proofs.named.add_used.Given as goal

abbrev pub invariant-used : goal.invariant-used
invariant-used l = l.namings ≡ with_namings (flat_map (namings_of l.way) (drop l.at l.used)) l.initial.namings
