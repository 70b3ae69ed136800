use Rattle.std.proofs.Common.{drop}
use Rattle.soar_choose.specs.Rows.{AreSumsWithin}
use Rattle.decision_tests.proofs.choice.draws.are_within.Given as goal

abbrev pub invariant-left : goal.invariant-left
invariant-left l = AreSumsWithin (drop l.scored-index l.left) → AreSumsWithin l.left
