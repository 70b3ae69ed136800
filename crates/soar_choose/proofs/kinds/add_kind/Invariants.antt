use Rattle.std.proofs.Common.{◌≡◌, ◌||◌, drop}
use Rattle.soar_sym.specs.declared.symbol.Sym.{Sym}
use Rattle.defs_soar.specs.Choice.{has_kind}
use Rattle.defs_soar.specs.Sorted.{has_symbol}
use Rattle.soar_choose.proofs.kinds.add_kind.Given as goal

abbrev pub invariant-rows : goal.invariant-rows
invariant-rows l = (s : Sym) → (has_kind (drop l.row-index l.rows) l.kind s || has_symbol l.set s) ≡ (has_kind l.rows l.kind s || has_symbol l.initial.set s)
