use Rattle.std.proofs.Common.{◌≡◌, drop, map}
use Rattle.soar_rule.specs.Productions.{value_seen, values_of}
use Rattle.soar_rule.specs.Variables.{variables_of_values}
use Rattle.rule_check.specs.Unmarked.{first_unmarked}
use Rattle.rule_check.proofs.unbound.+variables.Given as goal

abbrev pub invariant-unmarked_in_values-values : goal.invariant-unmarked_in_values-values
invariant-unmarked_in_values-values l = first_unmarked l.marks.marks (variables_of_values (values_of (map value_seen (drop l.value-index l.values)))) ≡ first_unmarked l.marks.marks (variables_of_values (values_of (map value_seen l.values)))
