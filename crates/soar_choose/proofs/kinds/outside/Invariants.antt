use Rattle.std.proofs.Common.{◌≡◌, filter, not, take}
use Rattle.defs_soar.specs.Sorted.{has_symbol}
use Rattle.soar_choose.proofs.kinds.outside.Given as goal

abbrev pub invariant-values : goal.invariant-values
invariant-values l = l.left.items ≡ filter (λ v. not (has_symbol l.set v)) (take l.value-index l.values)
