use Rattle.std.proofs.Common.{◌≡◌, ◌≤◌, ◌++◌, drop, length}
use Rattle.soar_settle.specs.Merging.{merged}
use Rattle.soar_settle.proofs.tagging.merging.merged.Given as goal

abbrev pub invariant-triples : goal.invariant-triples
invariant-triples l = record {
  within : l.from ≤ length l.b;
  merged : l.out.items ++ merged l.table (drop l.triple-index l.a) (drop l.from l.b) ≡ merged l.table l.a l.b;
}
