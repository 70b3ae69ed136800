use Rattle.std.proofs.Common.{◌≡◌, ◌++◌, take}
use Rattle.touched_tags.specs.Looked.{both_marks}
use Rattle.touched_tags.proofs.looking.add_both.Given as goal

abbrev pub invariant-triples : goal.invariant-triples
invariant-triples l = l.looked ≡ l.initial.looked ++ both_marks (take l.triple-index l.triples)
