use Rattle.std.proofs.Common.{◌≡◌, filter, take}
use Rattle.defs_soar.specs.Sorted.{has_symbol}
use Rattle.soar_choose.proofs.kinds.within.Given as goal

abbrev pub invariant-values : goal.invariant-values
invariant-values l = l.left.items ≡ filter (has_symbol l.set) (take l.value-index l.values)
