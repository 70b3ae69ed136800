use Rattle.std.proofs.Common.{◌≡◌, drop}
use Rattle.defs_soar.specs.Stale.{tag_lost}
use Rattle.chunk_learn.proofs.stale.tag_lost.Given as goal

abbrev pub invariant-grounds : goal.invariant-grounds
invariant-grounds l = tag_lost l.memory.elements (drop l.ground-index l.grounds) ≡ tag_lost l.memory.elements l.grounds
