use Rattle.std.proofs.Common.{◌≡◌, drop}
use Rattle.soar_rule.specs.Checking.{has_state}
use Rattle.soar_rule.specs.Conditions.{conditions}
use Rattle.rule_check.proofs.checking.has_state.Given as goal

abbrev pub invariant-conds : goal.invariant-conds
invariant-conds l = has_state (conditions (drop l.cond-index l.conds)) ≡ has_state (conditions l.conds)
