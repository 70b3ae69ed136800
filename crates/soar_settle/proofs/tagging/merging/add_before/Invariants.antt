use Rattle.std.proofs.Common.{◌≡◌, ◌++◌, drop}
use Rattle.soar_settle.specs.Merging.{left, moved}
use Rattle.soar_settle.proofs.tagging.merging.add_before.Given as goal

abbrev pub invariant-triples : goal.invariant-triples
invariant-triples l = record {
  moved : l.out.items ++ moved l.table l.triple (drop l.at l.triples) ≡ l.initial.out.items ++ moved l.table l.triple (drop l.from l.triples);
  left : left l.table l.triple (drop l.at l.triples) ≡ left l.table l.triple (drop l.from l.triples);
}
