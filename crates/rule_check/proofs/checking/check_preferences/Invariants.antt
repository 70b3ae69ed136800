use Rattle.std.proofs.Common.{◌≡◌, drop, map}
use Rattle.std.specs.List.{list_any}
use Rattle.soar_rule.specs.Checking.{is_bad}
use Rattle.soar_rule.specs.Productions.{action_seen}
use Rattle.rule_check.proofs.checking.check_preferences.Given as goal

abbrev pub invariant-actions : goal.invariant-actions
invariant-actions l = list_any is_bad (map action_seen (drop l.action-index l.actions)) ≡ list_any is_bad (map action_seen l.actions)
