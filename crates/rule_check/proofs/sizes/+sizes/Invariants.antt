use Rattle.std.proofs.Common.{◌≡◌, ◌+◌, ◌≤◌, drop}
use Rattle.soar_rule.specs.Checking.{told}
use Rattle.soar_rule.specs.Conditions.{conditions}
use Rattle.soar_rule.specs.Sizes.{size_of_all}
use Rattle.rule_check.proofs.sizes.+sizes.Given as goal

abbrev pub invariant-size_of_all-conds : goal.invariant-size_of_all-conds
invariant-size_of_all-conds l = record {
  within : l.size ≤ 4294967295;
  size : told (l.size + size_of_all (conditions (drop l.cond-index l.conds))) ≡ told (size_of_all (conditions l.conds));
}
