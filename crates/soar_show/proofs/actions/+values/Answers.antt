use Rattle.std.proofs.Common.{◌++◌, map, sym, ap, refl, ◌∙◌, append_assoc, arith}
use denote.Param.Weighed.{at_most}
use Rattle.std.proofs.lemmas.Str.{encode_ascii}
use Rattle.soar_rule.specs.declared.action.Value.{size-Value}
use Rattle.soar_rule.specs.Productions.{value_seen, values_of}
use Rattle.soar_rule.specs.Symbols.{constants_of_value, constants_of_values}
use Rattle.defs_read.specs.Printing.{values_text}
use Rattle.soar_show.proofs.KnownLemmas.{knows_item, knows_later}
use Rattle.soar_show.proofs.ListLemmas.{drop_item}
use Rattle.soar_show.proofs.actions.+values.Goals as goal

pub push_values-push_value-requires : goal.push_values-push_value-requires
push_values-push_value-requires t c = (
  omega (arith, ap size-Value c.value-item.is, at_most size-Value c.args.values.now c.values.value-index c.value-item.result c.values-test.true),
  knows_item (λ x. constants_of_value (value_seen x)) (λ xs. constants_of_values (values_of (map value_seen xs))) (λ x xs. refl) _ c.args.values.now c.values.value-index c.value-item.result c.values-test.true c.value-item.is c.values.invariant.known,
)

pub push_values-values-preserved : goal.push_values-values-preserved
push_values-values-preserved t c =
    let next = drop_item c.args.values.now c.values.value-index c.value-item.result c.values-test.true c.value-item.is in
    record {
      known = knows_later (λ x. constants_of_value (value_seen x)) (λ xs. constants_of_values (values_of (map value_seen xs))) (λ x xs. refl) _ c.args.values.now c.values.value-index c.value-item.result c.values-test.true c.value-item.is c.values.invariant.known;
      text =
          (rw (c.in_ok-push_value.ensures, c.in_ok-push.ensures.ok)
          (simp (append_assoc, encode_ascii 32 (omega arith)) (sym (ap (λ values. c.values.out ++ values_text (values_of (map value_seen values)) c.args.names.now) next))))
          ∙ c.values.invariant.text;
    }
