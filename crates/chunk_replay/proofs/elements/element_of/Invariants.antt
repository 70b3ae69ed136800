use Rattle.std.proofs.Common.{◌≡◌, drop, map}
use Rattle.soar_wm.specs.WorkingMemory.{element_of}
use Rattle.chunk_replay.proofs.elements.element_of.Given as goal

abbrev pub invariant-used : goal.invariant-used
invariant-used l = element_of l.tag (map (λ u. u.element) (drop l.one-index l.used)) ≡ element_of l.tag (map (λ u. u.element) l.used)
