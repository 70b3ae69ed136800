use Rattle.std.proofs.Common.{◌≡◌, drop, flat_map}
use Rattle.soar_rule.specs.Variables.{variables_of_test, with_each}
use Rattle.soar_rule.proofs.occurrence.meet_field.Given as goal

abbrev pub invariant-tests : goal.invariant-tests
invariant-tests l =
    with_each l.numbering.order (flat_map variables_of_test (drop l.test-index l.field.tests)) ≡ with_each l.initial.numbering.order (flat_map variables_of_test l.field.tests)
