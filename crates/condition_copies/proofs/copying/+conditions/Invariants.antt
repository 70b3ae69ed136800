use Rattle.std.proofs.Common.{◌≡◌, map, take}
use Rattle.soar_rule.specs.Conditions.{condition}
use Rattle.soar_rule.specs.Renaming.{condition_with}
use Rattle.condition_copies.proofs.copying.+conditions.Given as goal

abbrev pub invariant-conds_with-conds : goal.invariant-conds_with-conds
invariant-conds_with-conds g l = map condition l.out ≡ map (λ c. condition_with (g.R.Replaces.replaced l.atoms) (condition c)) (take l.cond-index l.conds)
