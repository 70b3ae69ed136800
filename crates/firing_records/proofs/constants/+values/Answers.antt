use Rattle.std.proofs.Common.{refl, ap, ◌∙◌, ◌++◌, map, flat_map, sym}
use Rattle.std.proofs.lemmas.Result.{on_ok_weaker}
use Rattle.soar_rule.specs.Productions.{value_seen}
use Rattle.soar_rule.specs.Symbols.{constants_of_value}
use Rattle.firing_records.specs.Among.{goals_in}
use Rattle.firing_records.proofs.ConstantLemmas.{constants_of_call, found_next}
use Rattle.firing_records.proofs.constants.+values.Goals as goal

pub add_values-values-preserved : goal.add_values-values-preserved
add_values-values-preserved t c =
    found_next (λ x. constants_of_value (value_seen x)) (λ xs. flat_map constants_of_value (map value_seen xs)) (λ x xs. refl) c.args.goals.now
    c.values.found c.add_value.new.found c.args.values.now
    c.values.value-index c.value-item.result c.values-test.true c.value-item.is c.in_ok-add_value.ensures
    ∙ c.values.invariant

pub add_value-returns-in-Call : goal.add_value-returns-in-Call
add_value-returns-in-Call t c = on_ok_weaker c.add_values.result
    (λ met. met ∙ ap (λ vs. c.args.found.now ++ goals_in c.args.goals.now (flat_map constants_of_value (map value_seen vs))) c.as_slice.ensures
    ∙ ap (λ xs. c.args.found.now ++ goals_in c.args.goals.now xs) (constants_of_call c.in-Call.field-0 c.in-Call.values ∙ sym (ap (λ v. constants_of_value (value_seen v)) c.in-Call.is)))
    c.add_values.ensures
