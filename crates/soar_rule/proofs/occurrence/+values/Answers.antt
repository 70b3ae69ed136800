use Rattle.std.proofs.Common.{refl, ap, ◌∙◌, map, flat_map, sym}
use Rattle.std.proofs.lemmas.Result.{on_ok_weaker}
use Rattle.soar_rule.specs.Productions.{value_seen}
use Rattle.soar_rule.specs.Variables.{variables_of_value, with_each}
use Rattle.soar_rule.proofs.OccurrenceLemmas.{each_of_next, variables_of_call}
use Rattle.soar_rule.proofs.occurrence.+values.Goals as goal

pub meet_values-values-preserved : goal.meet_values-values-preserved
meet_values-values-preserved t c =
    each_of_next (λ x. variables_of_value (value_seen x)) (λ xs. flat_map variables_of_value (map value_seen xs)) (λ x xs. refl)
    c.values.numbering.order c.meet_value.new.numbering.order c.args.values.now
    c.values.value-index c.value-item.result c.values-test.true c.value-item.is c.in_ok-meet_value.ensures
    ∙ c.values.invariant

pub meet_value-returns-in-Call : goal.meet_value-returns-in-Call
meet_value-returns-in-Call t c = on_ok_weaker c.meet_values.result
    (λ met. met ∙ ap (λ vs. with_each c.args.numbering.now.order (flat_map variables_of_value (map value_seen vs))) c.as_slice.ensures
    ∙ ap (with_each c.args.numbering.now.order) (variables_of_call c.in-Call.field-0 c.in-Call.values ∙ sym (ap (λ v. variables_of_value (value_seen v)) c.in-Call.is)))
    c.meet_values.ensures
