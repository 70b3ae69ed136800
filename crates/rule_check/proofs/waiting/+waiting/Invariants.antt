use Rattle.std.proofs.Common.{◌≡◌, drop}
use Rattle.soar_rule.specs.Conditions.{conditions}
use Rattle.soar_rule.specs.MatchOrder.{waits_for}
use Rattle.soar_rule.specs.Variables.{variables_of_conditions}
use Rattle.rule_check.specs.Members.{members}
use Rattle.rule_check.proofs.waiting.+waiting.Given as goal

abbrev pub invariant-awaited_in_conds-conds : goal.invariant-awaited_in_conds-conds
invariant-awaited_in_conds-conds l =
    waits_for (members l.outside.marks) (members l.bound.marks) (variables_of_conditions (conditions (drop l.cond-index l.conds)))
    ≡ waits_for (members l.outside.marks) (members l.bound.marks) (variables_of_conditions (conditions l.conds))
