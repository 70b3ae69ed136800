use Rattle.std.proofs.Common.{take}
use Rattle.soar_rule.specs.Conditions.{conditions}
use Rattle.soar_rule.specs.Variables.{plain_outside}
use Rattle.rule_check.specs.Marking.{AreMarked}
use Rattle.rule_check.proofs.binding.plain_outside.Given as goal

abbrev pub invariant-conds : goal.invariant-conds
invariant-conds l = AreMarked l.outside.marks (plain_outside (conditions (take l.cond-index l.conds)))
