use Rattle.std.proofs.Common.{refl, ◌∙◌, map, flat_map}
use Rattle.soar_rule.specs.Productions.{action_seen}
use Rattle.soar_rule.specs.Variables.{variables_of_action}
use Rattle.soar_rule.proofs.OccurrenceLemmas.{each_of_next}
use Rattle.soar_rule.proofs.occurrence.meet_actions.Goals as goal

pub actions-preserved : goal.actions-preserved
actions-preserved c =
    each_of_next (λ x. variables_of_action (action_seen x)) (λ xs. flat_map variables_of_action (map action_seen xs)) (λ x xs. refl)
    c.actions.numbering.order c.meet_action.new.numbering.order c.args.actions.now
    c.actions.action-index c.action-item.result c.actions-test.true c.action-item.is c.in_ok-meet_action.ensures
    ∙ c.actions.invariant
