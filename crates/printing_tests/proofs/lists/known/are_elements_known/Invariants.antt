use Rattle.std.proofs.Common.{drop}
use Rattle.soar_settle.specs.Known.{AreElementsKnown}
use Rattle.printing_tests.proofs.lists.known.are_elements_known.Given as goal

abbrev pub invariant-elements : goal.invariant-elements
invariant-elements l = AreElementsKnown l.table (drop l.element-index l.elements) → AreElementsKnown l.table l.elements
