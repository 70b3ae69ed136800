use Rattle.std.proofs.Common.{◌≡◌, drop}
use Rattle.soar_settle.specs.Merging.{rises_after}
use Rattle.soar_settle.specs.Tagging.{IsTripleKnown}
use Rattle.soar_settle.proofs.tagging.ordering.rises_after.Given as goal

abbrev pub invariant-triples : goal.invariant-triples
invariant-triples l = record {
  known : IsTripleKnown l.table l.last;
  same : rises_after l.table l.last (drop l.triple-index l.triples) ≡ rises_after l.table l.fn.first l.triples;
}
