use Rattle.std.proofs.Common.{◌≡◌, drop}
use Rattle.defs_soar.specs.Sorted.{has_symbol}
use Rattle.defs_soar.specs.Verdicts.{values_of_scored}
use Rattle.soar_decide.proofs.deciding.has_value.Given as goal

abbrev pub invariant-left : goal.invariant-left
invariant-left l = has_symbol (values_of_scored (drop l.scored-index l.left)) l.operator ≡ has_symbol (values_of_scored l.left) l.operator
