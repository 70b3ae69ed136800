use Rattle.std.proofs.Common.{◌≡◌, drop, map, flat_map}
use Rattle.soar_rule.specs.Productions.{action_seen}
use Rattle.soar_rule.specs.Variables.{variables_of_action, with_each}
use Rattle.soar_rule.proofs.occurrence.meet_actions.Given as goal

abbrev pub invariant-actions : goal.invariant-actions
invariant-actions l =
    with_each l.numbering.order (flat_map variables_of_action (map action_seen (drop l.action-index l.actions)))
    ≡ with_each l.initial.numbering.order (flat_map variables_of_action (map action_seen l.actions))
