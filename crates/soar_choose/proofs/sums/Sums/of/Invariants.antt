use Rattle.std.proofs.Common.{◌≡◌, ◌+ℤ◌, drop}
use Rattle.soar_sym.specs.declared.symbol.Sym.{Sym}
use Rattle.defs_soar.specs.Choice.{sum_of}
use Rattle.soar_choose.specs.Told.{sum_at}
use Rattle.soar_choose.proofs.sums.Sums.of.Given as goal

abbrev pub invariant-rows : goal.invariant-rows
invariant-rows l = (s : Sym) → sum_at l.sums s +ℤ sum_of (drop l.row-index l.rows) s ≡ sum_of l.rows s
