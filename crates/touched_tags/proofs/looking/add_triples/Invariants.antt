use Rattle.std.proofs.Common.{◌≡◌, ◌++◌, map, take}
use Rattle.soar_wm.specs.WorkingMemory.{triple_of}
use Rattle.touched_tags.proofs.looking.add_triples.Given as goal

abbrev pub invariant-elements : goal.invariant-elements
invariant-elements l = l.looked ≡ l.initial.looked ++ map triple_of (take l.element-index l.elements)
