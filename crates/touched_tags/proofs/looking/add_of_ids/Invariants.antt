use Rattle.std.proofs.Common.{◌≡◌, ◌++◌, take}
use Rattle.touched_tags.specs.Looked.{triples_of}
use Rattle.touched_tags.proofs.looking.add_of_ids.Given as goal

abbrev pub invariant-ids : goal.invariant-ids
invariant-ids l = l.looked ≡ l.initial.looked ++ triples_of (take l.id-index l.ids) l.memory.elements
