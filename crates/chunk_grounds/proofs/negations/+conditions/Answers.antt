use Rattle.std.proofs.Common.{◌∙◌, Some, None, refl}
use Rattle.soar_rule.specs.Conditions.{condition, conditions}
use Rattle.soar_rule.specs.Symbols.{constants_of_condition, constants_of_conditions}
use Rattle.chunk_grounds.proofs.FirstLemmas.{first_next}
use Rattle.chunk_grounds.proofs.negations.+conditions.Goals as goal

pub first_in_conditions-returns-in-Some : goal.first_in_conditions-returns-in-Some
first_in_conditions-returns-in-Some t c =
    first_next c.args.places.now (λ conds. constants_of_conditions (conditions conds)) (λ cond. constants_of_condition (condition cond)) (λ cond conds. refl)
    c.args.conds.now c.conds.cond-index c.cond-item.result (Some c.in-Some.symbol) c.conds-test.true c.cond-item.is c.in-Some.ensures
    ∙ c.conds.invariant

pub first_in_conditions-conds-preserved : goal.first_in_conditions-conds-preserved
first_in_conditions-conds-preserved t c =
    first_next c.args.places.now (λ conds. constants_of_conditions (conditions conds)) (λ cond. constants_of_condition (condition cond)) (λ cond conds. refl)
    c.args.conds.now c.conds.cond-index c.cond-item.result None c.conds-test.true c.cond-item.is c.in_default.ensures
    ∙ c.conds.invariant
