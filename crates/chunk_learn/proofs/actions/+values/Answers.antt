use Rattle.std.proofs.Common.{sym, ap₂, ◌∙◌}
use Rattle.soar_rule.specs.Equality.{list_eq}
use Rattle.chunk_learn.specs.Seen.{seen_value_eq}
use Rattle.chunk_learn.proofs.BodyLemmas.{calls_are}
use Rattle.chunk_learn.proofs.actions.+values.Goals as goal

pub same_value-returns-then-function_place : goal.same_value-returns-then-function_place
same_value-returns-then-function_place t c =
    let places = sym c.function_place.ensures ∙ (c.if-function_place.true ∙ c.function_place-in-Call-Call.ensures) in
    c.same_values.ensures
    ∙ (ap₂ (list_eq seen_value_eq) c.as_slice.ensures c.as_slice-then-function_place.ensures
    ∙ calls_are c.in-Call-Call.function c.in-Call-Call.other c.in-Call-Call.values c.in-Call-Call.others c.args.a.now c.args.b.now c.in-Call-Call.is-0 c.in-Call-Call.is-1 places)
