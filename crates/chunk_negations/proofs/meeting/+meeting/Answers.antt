use Rattle.std.proofs.Common.{refl, ◌∙◌}
use Rattle.soar_rule.specs.Conditions.{condition, conditions}
use Rattle.soar_rule.specs.Variables.{variables_of_condition, variables_of_conditions}
use Rattle.soar_rule.proofs.OccurrenceLemmas.{each_of_next}
use Rattle.chunk_negations.proofs.meeting.+meeting.Goals as goal

pub meet_conds-conds-preserved : goal.meet_conds-conds-preserved
meet_conds-conds-preserved t c =
    each_of_next (λ x. variables_of_condition (condition x)) (λ xs. variables_of_conditions (conditions xs)) (λ x xs. refl) c.conds.met c.meet_cond.new.met c.args.conds.now
    c.conds.cond-index c.cond-item.result c.conds-test.true c.cond-item.is c.in_ok-meet_cond.ensures
    ∙ c.conds.invariant
