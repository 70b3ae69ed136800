use Rattle.std.proofs.Common.{refl, ◌∙◌, map, flat_map}
use Rattle.soar_rule.specs.Productions.{action_seen}
use Rattle.soar_rule.specs.Symbols.{constants_of_action}
use Rattle.firing_records.proofs.ConstantLemmas.{found_next}
use Rattle.firing_records.proofs.constants.add_actions.Goals as goal

pub actions-preserved : goal.actions-preserved
actions-preserved c =
    found_next (λ x. constants_of_action (action_seen x)) (λ xs. flat_map constants_of_action (map action_seen xs)) (λ x xs. refl) c.args.goals.now
    c.actions.found c.add_action.new.found c.args.actions.now
    c.actions.action-index c.action-item.result c.actions-test.true c.action-item.is c.in_ok-add_action.ensures
    ∙ c.actions.invariant
