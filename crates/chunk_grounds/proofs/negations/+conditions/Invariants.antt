use Rattle.std.proofs.Common.{◌≡◌, drop}
use Rattle.defs_soar.specs.Ungrounded.{first_without}
use Rattle.soar_rule.specs.Conditions.{conditions}
use Rattle.soar_rule.specs.Symbols.{constants_of_conditions}
use Rattle.chunk_grounds.proofs.negations.+conditions.Given as goal

abbrev pub invariant-first_in_conditions-conds : goal.invariant-first_in_conditions-conds
invariant-first_in_conditions-conds l =
    first_without l.places (constants_of_conditions (conditions (drop l.cond-index l.conds))) ≡ first_without l.places (constants_of_conditions (conditions l.conds))
