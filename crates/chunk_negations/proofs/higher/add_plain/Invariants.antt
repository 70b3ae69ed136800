use Rattle.std.proofs.Common.{◌≡◌, ◌++◌, flat_map, take}
use Rattle.soar_rule.specs.Variables.{plain_in_test}
use Rattle.chunk_negations.proofs.higher.add_plain.Given as goal

abbrev pub invariant-tests : goal.invariant-tests
invariant-tests l = l.values ≡ l.initial.values ++ flat_map plain_in_test (take l.test-index l.field.tests)
