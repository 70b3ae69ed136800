use Rattle.std.proofs.Common.{◌≡◌, drop}
use Rattle.std.specs.List.{list_any}
use Rattle.soar_wm.specs.WorkingMemory.{has_triple}
use Rattle.chunk_replay.proofs.known.has_triple.Given as goal

abbrev pub invariant-elements : goal.invariant-elements
invariant-elements l = list_any (has_triple l.triple) (drop l.element-index l.elements) ≡ list_any (has_triple l.triple) l.elements
