use Rattle.std.proofs.Common.{◌≡◌, ◌++◌, take, flat_map}
use Rattle.soar_rule.specs.Symbols.{constants_of_test}
use Rattle.firing_records.specs.Among.{goals_in}
use Rattle.firing_records.proofs.constants.add_field.Given as goal

abbrev pub invariant-tests : goal.invariant-tests
invariant-tests l = l.found ≡ l.initial.found ++ goals_in l.goals (flat_map constants_of_test (take l.test-index l.field.tests))
