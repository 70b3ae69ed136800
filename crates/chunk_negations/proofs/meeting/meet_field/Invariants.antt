use Rattle.std.proofs.Common.{◌≡◌, drop, flat_map}
use Rattle.soar_rule.specs.Variables.{variables_of_test, with_each}
use Rattle.chunk_negations.proofs.meeting.meet_field.Given as goal

abbrev pub invariant-tests : goal.invariant-tests
invariant-tests l = with_each l.met (flat_map variables_of_test (drop l.test-index l.field.tests)) ≡ with_each l.initial.met (flat_map variables_of_test l.field.tests)
