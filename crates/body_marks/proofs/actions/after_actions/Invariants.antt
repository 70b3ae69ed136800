use Rattle.std.proofs.Common.{◌≡◌, drop, map}
use Rattle.soar_rule.specs.Productions.{action_seen}
use Rattle.body_marks.specs.Fingerprint.{after_action, after_each}
use Rattle.body_marks.proofs.actions.after_actions.Given as goal

abbrev pub invariant-actions : goal.invariant-actions
invariant-actions l = after_each after_action (map action_seen (drop l.action-index l.actions)) l.last ≡ after_each after_action (map action_seen l.actions) l.mark
