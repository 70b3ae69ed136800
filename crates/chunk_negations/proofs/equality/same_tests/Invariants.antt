use Rattle.std.proofs.Common.{◌≡◌, drop}
use Rattle.soar_rule.specs.Equality.{list_eq, test_eq}
use Rattle.chunk_negations.proofs.equality.same_tests.Given as goal

abbrev pub invariant-tests : goal.invariant-tests
invariant-tests l = list_eq test_eq (drop l.at l.tests) (drop l.at l.others) ≡ list_eq test_eq l.tests l.others
