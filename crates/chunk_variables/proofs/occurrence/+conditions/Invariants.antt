use Rattle.std.proofs.Common.{◌≡◌, drop}
use Rattle.soar_rule.specs.Conditions.{conditions}
use Rattle.defs_soar.specs.Variablized.{each_variablized_once, variablized_in_conditions}
use Rattle.chunk_variables.proofs.occurrence.+conditions.Given as goal

abbrev pub invariant-meet_conds-conds : goal.invariant-meet_conds-conds
invariant-meet_conds-conds l =
    each_variablized_once l.variables (variablized_in_conditions l.general (conditions (drop l.cond-index l.conds)))
    ≡ each_variablized_once l.initial.variables (variablized_in_conditions l.general (conditions l.conds))
