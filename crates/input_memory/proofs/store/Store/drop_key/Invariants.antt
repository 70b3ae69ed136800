use Rattle.std.proofs.Common.{◌≡◌, length}
use Rattle.input_memory.specs.Store.{IsStore}
use Rattle.input_memory.proofs.StoreLemmas.{without}
use Rattle.input_memory.proofs.store.Store.drop_key.Given as goal

abbrev pub invariant-triples : goal.invariant-triples
invariant-triples l = record {
  sound : IsStore l.self.triples.entries l.self.numbers l.self.next;
  same : without l.key l.self.triples.entries ≡ without l.key l.initial.self.triples.entries;
}

abbrev pub decreases-triples : goal.decreases-triples
decreases-triples l = length l.self.triples.entries
