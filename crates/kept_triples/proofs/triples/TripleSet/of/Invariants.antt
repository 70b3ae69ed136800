use Rattle.std.proofs.Common.{drop}
use Rattle.kept_triples.proofs.SetLemmas.{HasWithRest}
use Rattle.kept_triples.proofs.triples.TripleSet.of.Given as goal

abbrev pub invariant-triples : goal.invariant-triples
invariant-triples l = HasWithRest l.set (drop l.triple-index l.triples) l.triples
