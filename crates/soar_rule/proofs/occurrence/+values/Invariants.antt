use Rattle.std.proofs.Common.{◌≡◌, drop, map, flat_map}
use Rattle.soar_rule.specs.Productions.{value_seen}
use Rattle.soar_rule.specs.Variables.{variables_of_value, with_each}
use Rattle.soar_rule.proofs.occurrence.+values.Given as goal

abbrev pub invariant-meet_values-values : goal.invariant-meet_values-values
invariant-meet_values-values l =
    with_each l.numbering.order (flat_map variables_of_value (map value_seen (drop l.value-index l.values)))
    ≡ with_each l.initial.numbering.order (flat_map variables_of_value (map value_seen l.values))
