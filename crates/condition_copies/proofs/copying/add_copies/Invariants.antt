use Rattle.std.proofs.Common.{◌≡◌, ◌++◌, map, take}
use Rattle.soar_rule.specs.Conditions.{condition}
use Rattle.condition_copies.proofs.copying.add_copies.Given as goal

abbrev pub invariant-conds : goal.invariant-conds
invariant-conds l = map condition l.out ≡ map condition l.initial.out ++ map condition (take l.cond-index l.conds)
