use Rattle.std.proofs.Common.{◌≡◌, drop}
use Rattle.defs_soar.specs.Draw.{greatest_from}
use Rattle.soar_choose.proofs.drawing.greatest_sum.Given as goal

abbrev pub invariant-sums : goal.invariant-sums
invariant-sums l = greatest_from l.greatest (drop l.s-index l.rest) ≡ greatest_from l.first l.rest
