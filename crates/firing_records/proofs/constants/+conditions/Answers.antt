use Rattle.std.proofs.Common.{refl, ◌∙◌}
use Rattle.soar_rule.specs.Conditions.{condition, conditions}
use Rattle.soar_rule.specs.Symbols.{constants_of_condition, constants_of_conditions}
use Rattle.firing_records.proofs.ConstantLemmas.{found_next}
use Rattle.firing_records.proofs.constants.+conditions.Goals as goal

pub add_conds-conds-preserved : goal.add_conds-conds-preserved
add_conds-conds-preserved t c =
    found_next (λ x. constants_of_condition (condition x)) (λ xs. constants_of_conditions (conditions xs)) (λ x xs. refl) c.args.goals.now c.conds.found c.add_cond.new.found c.args.conds.now
    c.conds.cond-index c.cond-item.result c.conds-test.true c.cond-item.is c.in_ok-add_cond.ensures
    ∙ c.conds.invariant
