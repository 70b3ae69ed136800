use Rattle.std.proofs.Common.{◌≡◌, ◌++◌, drop, map, flat_map}
use Rattle.soar_rule.specs.Productions.{action_seen}
use Rattle.soar_rule.specs.Symbols.{constants_of_action}
use Rattle.firing_records.specs.Among.{goals_in}
use Rattle.firing_records.proofs.constants.add_actions.Given as goal

abbrev pub invariant-actions : goal.invariant-actions
invariant-actions l =
    l.found ++ goals_in l.goals (flat_map constants_of_action (map action_seen (drop l.action-index l.actions)))
    ≡ l.initial.found ++ goals_in l.goals (flat_map constants_of_action (map action_seen l.actions))
