use Rattle.std.proofs.Common.{◌≡◌, List, ℕ, drop, map}
use Rattle.soar_rule.specs.Checking.{first_unbound}
use Rattle.soar_rule.specs.Productions.{action_seen}
use Rattle.rule_check.specs.Marking.{AreMarked}
use Rattle.rule_check.proofs.unbound.first_unbound.Given as goal

abbrev pub invariant-actions : goal.invariant-actions
invariant-actions l = (known new : List ℕ) → AreMarked l.bound.marks known → AreMarked l.linked.marks new → first_unbound known new (map action_seen (drop l.action-index l.actions)) ≡ first_unbound known new (map action_seen l.actions)
