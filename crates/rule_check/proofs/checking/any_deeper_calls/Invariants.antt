use Rattle.std.proofs.Common.{◌≡◌, drop, map, nat_lt}
use Rattle.std.specs.List.{list_any}
use Rattle.soar_rule.specs.Sizes.{calls_of}
use Rattle.soar_rule.specs.Productions.{action_seen}
use Rattle.rule_check.proofs.checking.any_deeper_calls.Given as goal

abbrev pub invariant-actions : goal.invariant-actions
invariant-actions l = list_any (λ a. nat_lt 8 (calls_of a)) (map action_seen (drop l.action-index l.actions)) ≡ list_any (λ a. nat_lt 8 (calls_of a)) (map action_seen l.actions)
