use Rattle.std.proofs.Common.{◌≡◌, ℕ, List, false, map, take}
use Rattle.soar_rule.specs.Checking.{linked_by_all}
use Rattle.soar_rule.specs.Productions.{action_seen}
use Rattle.rule_check.specs.Marking.{AreMarked}
use Rattle.rule_check.proofs.linking.link_all.Given as goal

abbrev pub invariant-actions : goal.invariant-actions
invariant-actions l = record {
  joined : (known : List ℕ) → AreMarked l.initial.linked.marks known → AreMarked l.linked.marks (linked_by_all (map action_seen (take l.action-index l.actions)) known);
  same : l.is_new ≡ false → l.linked ≡ l.initial.linked;
}
