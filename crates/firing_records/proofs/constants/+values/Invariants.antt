use Rattle.std.proofs.Common.{◌≡◌, ◌++◌, drop, map, flat_map}
use Rattle.soar_rule.specs.Productions.{value_seen}
use Rattle.soar_rule.specs.Symbols.{constants_of_value}
use Rattle.firing_records.specs.Among.{goals_in}
use Rattle.firing_records.proofs.constants.+values.Given as goal

abbrev pub invariant-add_values-values : goal.invariant-add_values-values
invariant-add_values-values l =
    l.found ++ goals_in l.goals (flat_map constants_of_value (map value_seen (drop l.value-index l.values)))
    ≡ l.initial.found ++ goals_in l.goals (flat_map constants_of_value (map value_seen l.values))
