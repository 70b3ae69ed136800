use Rattle.std.proofs.Common.{◌≡◌, drop, flat_map}
use Rattle.defs_soar.specs.Sorted.{has_symbol}
use Rattle.soar_rule.specs.Symbols.{constants_of_test}
use Rattle.chain_identifiers.proofs.constants.has_in_field.Given as goal

abbrev pub invariant-tests : goal.invariant-tests
invariant-tests l = has_symbol (flat_map constants_of_test (drop l.test-index l.field.tests)) l.symbol ≡ has_symbol (flat_map constants_of_test l.field.tests) l.symbol
