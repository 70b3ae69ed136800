use Rattle.std.proofs.Common.{◌≡◌, ◌+◌, ◌≤◌, ◌++◌, drop, length}
use Rattle.defs_soar.specs.Settling.{tagged}
use Rattle.soar_settle.specs.Tagging.{AreAddable}
use Rattle.soar_settle.proofs.tagging.replacing.add_all.Given as goal

abbrev pub invariant-triples : goal.invariant-triples
invariant-triples l = record {
  addable : AreAddable l.goals l.memory.last l.memory.elements (drop l.triple-index l.triples);
  limit : l.memory.limit ≡ l.initial.memory.limit;
  room : length l.memory.elements + length (drop l.triple-index l.triples) ≤ l.initial.memory.limit;
  last : l.memory.last + length (drop l.triple-index l.triples) ≡ l.initial.memory.last + length l.triples;
  elements : l.memory.elements ++ tagged l.goals l.memory.last (drop l.triple-index l.triples) ≡ l.initial.memory.elements ++ tagged l.goals l.initial.memory.last l.triples;
  new : l.new ++ tagged l.goals l.memory.last (drop l.triple-index l.triples) ≡ tagged l.goals l.initial.memory.last l.triples;
}
