use Rattle.std.proofs.Common.{◌≡◌, drop, map}
use Rattle.defs_soar.specs.Sorted.{has_symbol}
use Rattle.soar_rule.specs.Productions.{value_seen, values_of}
use Rattle.soar_rule.specs.Symbols.{constants_of_values}
use Rattle.chain_identifiers.proofs.constants.+values.Given as goal

abbrev pub invariant-has_in_values-values : goal.invariant-has_in_values-values
invariant-has_in_values-values l = has_symbol (constants_of_values (values_of (map value_seen (drop l.value-index l.values)))) l.symbol ≡ has_symbol (constants_of_values (values_of (map value_seen l.values))) l.symbol
