use Rattle.std.proofs.Common.{◌≡◌, ◌+◌, drop}
use Rattle.soar_rule.specs.Conditions.{conditions}
use Rattle.soar_rule.specs.Sizes.{size_of_all}
use Rattle.chunk_make.proofs.sizes.+sizes.Given as goal

abbrev pub invariant-size_of_all-conds : goal.invariant-size_of_all-conds
invariant-size_of_all-conds l = l.size + size_of_all (conditions (drop l.cond-index l.conds)) ≡ size_of_all (conditions l.conds)
