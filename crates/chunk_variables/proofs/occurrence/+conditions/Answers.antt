use Rattle.std.proofs.Common.{refl, ◌∙◌}
use Rattle.soar_rule.specs.Conditions.{condition, conditions}
use Rattle.defs_soar.specs.Variablized.{variablized_in_condition, variablized_in_conditions}
use Rattle.chunk_variables.proofs.OccurrenceLemmas.{once_of_next}
use Rattle.chunk_variables.proofs.occurrence.+conditions.Goals as goal

pub meet_conds-conds-preserved : goal.meet_conds-conds-preserved
meet_conds-conds-preserved t c =
    once_of_next (λ x. variablized_in_condition c.args.general (condition x)) (λ xs. variablized_in_conditions c.args.general (conditions xs)) (λ x xs. refl)
    c.conds.variables c.meet_cond.new.variables c.args.conds.now c.conds.cond-index c.cond-item.result c.conds-test.true c.cond-item.is c.in_ok-meet_cond.ensures
    ∙ c.conds.invariant
