use Rattle.std.proofs.Common.{◌∙◌, Some, None}
use Rattle.rule_check.proofs.UnmarkedLemmas.{first_unmarked_next}
use Rattle.rule_check.proofs.unbound.+variables.Goals as goal

pub unmarked_in_values-returns-in-Some : goal.unmarked_in_values-returns-in-Some
unmarked_in_values-returns-in-Some t c =
    first_unmarked_next c.args.marks.now.marks c.args.values.now c.values.value-index c.value-item.result (Some c.in-Some.number) c.values-test.true c.value-item.is c.in-Some.ensures
    ∙ c.values.invariant

pub unmarked_in_values-values-preserved : goal.unmarked_in_values-values-preserved
unmarked_in_values-values-preserved t c =
    first_unmarked_next c.args.marks.now.marks c.args.values.now c.values.value-index c.value-item.result None c.values-test.true c.value-item.is c.in_default.ensures
    ∙ c.values.invariant
