use Rattle.std.proofs.Common.{◌≡◌, drop}
use Rattle.soar_rule.specs.Conditions.{conditions}
use Rattle.soar_rule.specs.Variables.{variables_of_conditions, with_each}
use Rattle.chunk_negations.proofs.meeting.+meeting.Given as goal

abbrev pub invariant-meet_conds-conds : goal.invariant-meet_conds-conds
invariant-meet_conds-conds l =
    with_each l.met (variables_of_conditions (conditions (drop l.cond-index l.conds))) ≡ with_each l.initial.met (variables_of_conditions (conditions l.conds))
