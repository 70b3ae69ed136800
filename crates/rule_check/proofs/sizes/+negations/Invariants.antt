use Rattle.std.proofs.Common.{◌≡◌, nat_lt, drop}
use Rattle.soar_rule.specs.Conditions.{conditions}
use Rattle.soar_rule.specs.Sizes.{depth_of_all}
use Rattle.rule_check.proofs.sizes.+negations.Given as goal

abbrev pub invariant-are_deeper-conds : goal.invariant-are_deeper-conds
invariant-are_deeper-conds l = nat_lt l.limit (depth_of_all (conditions (drop l.cond-index l.conds))) ≡ nat_lt l.limit (depth_of_all (conditions l.conds))
