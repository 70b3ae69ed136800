use Rattle.std.proofs.Common.{◌≡◌, drop}
use Rattle.defs_soar.specs.Sorted.{has_symbol}
use Rattle.soar_rule.specs.Conditions.{conditions}
use Rattle.soar_rule.specs.Symbols.{constants_of_conditions}
use Rattle.chain_identifiers.proofs.constants.+conditions.Given as goal

abbrev pub invariant-has_in_conditions-conds : goal.invariant-has_in_conditions-conds
invariant-has_in_conditions-conds l = has_symbol (constants_of_conditions (conditions (drop l.cond-index l.conds))) l.symbol ≡ has_symbol (constants_of_conditions (conditions l.conds)) l.symbol
