use Rattle.std.proofs.Common.{◌≡◌, ◌++◌, drop, map}
use Rattle.carried_tests.specs.Seen.{carried_seen}
use Rattle.defs_soar.specs.CarriedTests.{tests_in}
use Rattle.carried_tests.proofs.conditions.add_tests.Given as goal

abbrev pub invariant-tests : goal.invariant-tests
invariant-tests l =
    map carried_seen l.tests.items ++ tests_in l.bindings l.symbol (drop l.test-index l.field) ≡ map carried_seen l.initial.tests.items ++ tests_in l.bindings l.symbol l.field
