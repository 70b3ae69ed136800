use Rattle.std.proofs.Common.{◌≡◌, ◌+◌, ap, sym, ◌∙◌, Ok, Err}
use Rattle.std.proofs.lemmas.Result.{err_from_is_err_and}
use Rattle.soar_rule.specs.Productions.{action_seen}
use Rattle.soar_fire.specs.ActionOutcomes.{action_outcome}
use Rattle.soar_fire.specs.Outcomes.{Standing, reached, standing}
use Rattle.soar_fire.proofs.GrowthLemmas.{gains_twice}
use Rattle.soar_fire.proofs.KnownLemmas.{knows_grown}
use Rattle.soar_fire.proofs.ActionLemmas.{next_constants, later_constants, next_rest, next_stop}
use Rattle.soar_fire.proofs.action.with_actions.Goals as goal

pub with_action-requires-clause-constants : goal.with_action-requires-clause-constants
with_action-requires-clause-constants c = next_constants _ c.args.actions.now c.actions.action-index c.action-item.result c.actions.invariant.constants c.actions-test.true c.action-item.is

pub returns-in_err-with_action-clause-gains : goal.returns-in_err-with_action-clause-gains
returns-in_err-with_action-clause-gains c = gains_twice _ _ _ _ _ _ c.actions.invariant.gains c.with_action.ensures.gains

pub returns-in_err-with_action-clause-answer : goal.returns-in_err-with_action-clause-answer
returns-in_err-with_action-clause-answer c =
    let p = err_from_is_err_and c.from_residual.result c.from_residual.ensures.1 in
    let before : Standing = standing c.actions.bindings.items c.actions.table c.actions.letters in
    let after : Standing = standing c.with_action.new.bindings.items c.with_action.new.table c.with_action.new.letters in
    next_stop c.args.scene.now.vars.now c.args.scene.now.goals.now (c.actions.place + 1) c.args.actions.now c.actions.action-index c.action-item.result c.actions.made c.with_action.new.made c.with_action.new.made before after after _ c.in_err-with_action.field-0.0 c.from_residual.result
    c.actions-test.true c.action-item.is c.actions.invariant.rest c.in_err-with_action.ensures.answer (p.1 ∙ ap Err p.2)

pub actions-preserved : goal.actions-preserved
actions-preserved c =
    let scene = c.args.scene.now in
    let before : Standing = standing c.actions.bindings.items c.actions.table c.actions.letters in
    let after : Standing = standing c.with_action.new.bindings.items c.with_action.new.table c.with_action.new.letters in
    let is : action_outcome scene.vars.now scene.goals.now (c.actions.place + 1) (action_seen c.action-item.result) c.actions.made before ≡ reached (Ok c.with_action.new.made) after = c.in_ok-with_action.ensures.answer in
    record {
      bound = c.in_ok-with_action.ensures.bound;
      constants = knows_grown _ _ _ (later_constants _ c.args.actions.now c.actions.action-index c.action-item.result c.actions.invariant.constants c.actions-test.true c.action-item.is) c.with_action.ensures.gains.words_grow;
      wishes = c.in_ok-with_action.ensures.wishes;
      gains = gains_twice _ _ _ _ _ _ c.actions.invariant.gains c.with_action.ensures.gains;
      place = ap (λ n. n + 1) c.actions.invariant.place;
      rest =
          sym (next_rest scene.vars.now scene.goals.now (c.actions.place + 1) c.args.actions.now c.actions.action-index c.action-item.result c.actions.made c.with_action.new.made before after c.actions-test.true c.action-item.is is)
          ∙ c.actions.invariant.rest;
    }
