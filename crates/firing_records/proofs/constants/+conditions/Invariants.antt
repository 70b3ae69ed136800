use Rattle.std.proofs.Common.{◌≡◌, ◌++◌, drop}
use Rattle.soar_rule.specs.Conditions.{conditions}
use Rattle.soar_rule.specs.Symbols.{constants_of_conditions}
use Rattle.firing_records.specs.Among.{goals_in}
use Rattle.firing_records.proofs.constants.+conditions.Given as goal

abbrev pub invariant-add_conds-conds : goal.invariant-add_conds-conds
invariant-add_conds-conds l =
    l.found ++ goals_in l.goals (constants_of_conditions (conditions (drop l.cond-index l.conds))) ≡ l.initial.found ++ goals_in l.goals (constants_of_conditions (conditions l.conds))
