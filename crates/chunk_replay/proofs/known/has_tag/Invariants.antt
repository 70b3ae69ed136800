use Rattle.std.proofs.Common.{◌≡◌, drop}
use Rattle.std.specs.List.{list_any}
use Rattle.soar_wm.specs.WorkingMemory.{has_tag}
use Rattle.chunk_replay.proofs.known.has_tag.Given as goal

abbrev pub invariant-elements : goal.invariant-elements
invariant-elements l = list_any (has_tag l.tag) (drop l.element-index l.elements) ≡ list_any (has_tag l.tag) l.elements
