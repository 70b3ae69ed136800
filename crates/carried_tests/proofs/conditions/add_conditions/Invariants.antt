use Rattle.std.proofs.Common.{◌≡◌, ◌≤◌, ◌++◌, drop, map}
use Rattle.soar_rule.specs.Conditions.{conditions}
use Rattle.carried_tests.specs.Seen.{carried_seen}
use Rattle.defs_soar.specs.CarriedTests.{tests_of_conditions}
use Rattle.carried_tests.proofs.conditions.add_conditions.Given as goal

abbrev pub invariant-conds : goal.invariant-conds
invariant-conds l = record {
  few : l.at ≤ l.cond-index;
  whole : map carried_seen l.tests.items ++ tests_of_conditions l.bindings (conditions (drop l.cond-index l.conds)) (drop l.at l.elements)
      ≡ map carried_seen l.initial.tests.items ++ tests_of_conditions l.bindings (conditions l.conds) l.elements;
}
