use Rattle.std.proofs.Common.{◌≡◌, ◌*◌, drop}
use Rattle.defs_soar.specs.CarriedTests.{occurrence_from}
use Rattle.carried_tests.proofs.occurring.first_occurrence.Given as goal

abbrev pub invariant-elements : goal.invariant-elements
invariant-elements l = occurrence_from (3 * l.index) (drop l.index l.elements) l.symbol ≡ occurrence_from 0 l.elements l.symbol
