use Rattle.std.proofs.Common.{◌≡◌, drop}
use Rattle.soar_rule.specs.Conditions.{conditions}
use Rattle.soar_rule.specs.Variables.{variables_of_conditions, with_each}
use Rattle.soar_rule.proofs.occurrence.+conditions.Given as goal

abbrev pub invariant-meet_conds-conds : goal.invariant-meet_conds-conds
invariant-meet_conds-conds l =
    with_each l.numbering.order (variables_of_conditions (conditions (drop l.cond-index l.conds))) ≡ with_each l.initial.numbering.order (variables_of_conditions (conditions l.conds))
