use Rattle.std.proofs.Common.{◌≡◌, drop, flat_map}
use Rattle.soar_rule.specs.Variables.{plain_in_test, with_each}
use Rattle.chain_identifiers.proofs.bindings.add_plain.Given as goal

abbrev pub invariant-tests : goal.invariant-tests
invariant-tests l = with_each l.seen.items (flat_map plain_in_test (drop l.test-index l.tests)) ≡ with_each l.initial.seen.items (flat_map plain_in_test l.tests)
