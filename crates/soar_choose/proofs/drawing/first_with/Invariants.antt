use Rattle.std.proofs.Common.{◌≡◌, ◌+◌, drop}
use Rattle.defs_soar.specs.Draw.{first_with}
use Rattle.soar_choose.proofs.drawing.first_with.Given as goal

abbrev pub invariant-sums : goal.invariant-sums
invariant-sums l = l.at + first_with l.number (drop l.at l.left) ≡ first_with l.number l.left
