use Rattle.std.proofs.Common.{◌≡◌, ◌+◌, ◌++◌, Ok, Err, map, drop, ap, sym, subst, ◌∙◌, arith}
use Rattle.std.proofs.lemmas.Result.{err_from_is_err_and}
use denote.Param.Weighed.{at_most}
use Rattle.soar_rule.specs.declared.action.Value.{size-Value}
use Rattle.soar_rule.specs.Productions.{value_seen, values_of}
use Rattle.soar_fire.specs.Known.{Knows}
use Rattle.soar_fire.specs.Outcomes.{Standing, found, reached, standing, then_on, value_outcome, values_outcome}
use Rattle.soar_fire.proofs.GrowthLemmas.{gains_letters, gains_twice, gains_words}
use Rattle.soar_fire.proofs.OutcomeLemmas.{on_ok}
use Rattle.soar_fire.proofs.KnownLemmas.{knows_grown, knows_push}
use Rattle.soar_fire.proofs.ValueLemmas.{next_constants, later_constants, next_drop, next_rest, next_stop}
use Rattle.soar_fire.proofs.value.+values.Goals as goal

pub evaluated-returns-in-Ok-clause-bound : goal.evaluated-returns-in-Ok-clause-bound
evaluated-returns-in-Ok-clause-bound t c = on_ok _ _ (knows_grown _ _ _ c.in_ok-symbols-in-Call.ensures.bound c.called.ensures.grown)

pub evaluated-returns-in_err-symbol-in-Atom-clause-gains : goal.evaluated-returns-in_err-symbol-in-Atom-clause-gains
evaluated-returns-in_err-symbol-in-Atom-clause-gains t c = gains_letters _ _ _ c.atom_of_action.ensures.letters

pub evaluated-returns-in_ok-symbol-in-Atom-clause-gains : goal.evaluated-returns-in_ok-symbol-in-Atom-clause-gains
evaluated-returns-in_ok-symbol-in-Atom-clause-gains t c = gains_letters _ _ _ c.atom_of_action.ensures.letters

pub evaluated-returns-in-Ok-clause-gains : goal.evaluated-returns-in-Ok-clause-gains
evaluated-returns-in-Ok-clause-gains t c = gains_words _ _ _ _ _ c.evaluated_all.ensures.gains c.called.ensures.grown

pub evaluated_all-evaluated-requires : goal.evaluated_all-evaluated-requires
evaluated_all-evaluated-requires t c = (
  omega (arith, ap size-Value c.value-item.is, at_most size-Value c.args.values.now c.values.value-index c.value-item.result c.values-test.true),
  (c.values.invariant.bound, next_constants _ c.args.values.now c.values.value-index c.value-item.result c.values.invariant.constants c.values-test.true c.value-item.is),
)

pub evaluated_all-values-preserved : goal.evaluated_all-values-preserved
evaluated_all-values-preserved t c =
    let before : Standing = standing c.values.bindings.items c.values.table c.values.letters in
    let after : Standing = standing c.evaluated.new.bindings.items c.evaluated.new.table c.evaluated.new.letters in
    let is : value_outcome c.args.scene.now.vars.now (value_seen c.value-item.result) before ≡ reached (Ok c.in-Ok.symbol) after = c.in_ok-symbol.ensures.answer ∙ ap (λ r. reached r after) c.in-Ok.is in
    record {
      bound = c.in_ok-symbol.ensures.bound;
      constants = knows_grown _ _ _ (later_constants _ c.args.values.now c.values.value-index c.value-item.result c.values.invariant.constants c.values-test.true c.value-item.is) c.evaluated.ensures.gains.words_grow;
      known = subst (Knows c.evaluated.new.table) (sym c.in_ok-push-in-Ok.ensures.ok)
          (knows_push _ _ _ (knows_grown _ _ _ c.values.invariant.known c.evaluated.ensures.gains.words_grow) (rw c.in-Ok.is at c.in_ok-symbol.ensures.known));
      gains = gains_twice _ _ _ _ _ _ c.values.invariant.gains c.evaluated.ensures.gains;
      rest = ap (λ symbols. then_on (values_outcome c.args.scene.now.vars.now (values_of (map value_seen (drop (c.values.value-index + 1) c.args.values.now))) after) (λ more s. found (symbols ++ more) s)) c.in_ok-push-in-Ok.ensures.ok
          ∙ sym (next_rest c.args.scene.now.vars.now c.args.values.now c.values.value-index c.value-item.result c.in-Ok.symbol c.values.symbols before after c.values-test.true c.value-item.is is)
          ∙ c.values.invariant.rest;
    }

pub evaluated_all-returns-in_err-symbol-clause-answer : goal.evaluated_all-returns-in_err-symbol-clause-answer
evaluated_all-returns-in_err-symbol-clause-answer t c =
    let p = err_from_is_err_and c.from_residual.result c.from_residual.ensures.1 in
    let before : Standing = standing c.values.bindings.items c.values.table c.values.letters in
    let after : Standing = standing c.evaluated.new.bindings.items c.evaluated.new.table c.evaluated.new.letters in
    next_stop c.args.scene.now.vars.now c.args.values.now c.values.value-index c.value-item.result c.values.symbols before after after _ c.in_err-symbol.field-0.0 c.from_residual.result
    c.values-test.true c.value-item.is c.values.invariant.rest c.in_err-symbol.ensures.answer (p.1 ∙ ap Err p.2)

pub evaluated_all-returns-in_err-symbol-clause-gains : goal.evaluated_all-returns-in_err-symbol-clause-gains
evaluated_all-returns-in_err-symbol-clause-gains t c = gains_twice _ _ _ _ _ _ c.values.invariant.gains c.evaluated.ensures.gains

pub evaluated_all-returns-in_err-push-in-Ok-clause-gains : goal.evaluated_all-returns-in_err-push-in-Ok-clause-gains
evaluated_all-returns-in_err-push-in-Ok-clause-gains t c = gains_twice _ _ _ _ _ _ c.values.invariant.gains c.evaluated.ensures.gains

pub evaluated_all-returns-in-Err-clause-answer : goal.evaluated_all-returns-in-Err-clause-answer
evaluated_all-returns-in-Err-clause-answer t c =
    let before : Standing = standing c.values.bindings.items c.values.table c.values.letters in
    let after : Standing = standing c.evaluated.new.bindings.items c.evaluated.new.table c.evaluated.new.letters in
    let is : value_outcome c.args.scene.now.vars.now (value_seen c.value-item.result) before ≡ reached (Err c.in-Err.cause) after = rw c.in-Err.is at c.in_ok-symbol.ensures.answer in
    next_drop c.args.scene.now.vars.now c.args.values.now c.values.value-index c.value-item.result c.values.symbols before after _ c.in-Err.cause
    c.values-test.true c.value-item.is c.values.invariant.rest is

pub evaluated_all-returns-in-Err-clause-gains : goal.evaluated_all-returns-in-Err-clause-gains
evaluated_all-returns-in-Err-clause-gains t c = gains_twice _ _ _ _ _ _ c.values.invariant.gains c.evaluated.ensures.gains
