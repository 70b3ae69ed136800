use Rattle.std.proofs.Common.{◌≡◌, ◌++◌, take}
use Rattle.settle_changes.specs.Naming.{ids_of}
use Rattle.settle_changes.proofs.looking.add_ids.Given as goal

abbrev pub invariant-triples : goal.invariant-triples
invariant-triples l = l.ids ≡ l.initial.ids ++ ids_of (take l.triple-index l.triples)
