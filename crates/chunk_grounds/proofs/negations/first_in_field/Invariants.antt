use Rattle.std.proofs.Common.{◌≡◌, drop, flat_map}
use Rattle.defs_soar.specs.Ungrounded.{first_without}
use Rattle.soar_rule.specs.Symbols.{constants_of_test}
use Rattle.chunk_grounds.proofs.negations.first_in_field.Given as goal

abbrev pub invariant-tests : goal.invariant-tests
invariant-tests l = first_without l.places (flat_map constants_of_test (drop l.test-index l.field.tests)) ≡ first_without l.places (flat_map constants_of_test l.field.tests)
