use Rattle.std.proofs.Common.{◌≡◌, ◌++◌}
use Rattle.std.specs.Map.{values_of}
use Rattle.input_memory.proofs.store.copies.Given as goal

abbrev pub invariant-triples : goal.invariant-triples
invariant-triples l = l.all ++ l.triple-iterator ≡ values_of l.fn.triples.entries
