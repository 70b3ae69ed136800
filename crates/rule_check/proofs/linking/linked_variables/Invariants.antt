use Rattle.std.proofs.Common.{ℕ, List, map}
use Rattle.soar_rule.specs.Checking.{linked_by_all}
use Rattle.soar_rule.specs.Productions.{action_seen}
use Rattle.soar_rule.specs.Repeat.{repeated}
use Rattle.rule_check.specs.Marking.{AreMarked}
use Rattle.rule_check.proofs.linking.linked_variables.Given as goal

abbrev pub invariant-rounds : goal.invariant-rounds
invariant-rounds l = (known : List ℕ) → AreMarked l.bound.marks known → AreMarked l.linked.marks (repeated l.index (linked_by_all (map action_seen l.actions)) known)
