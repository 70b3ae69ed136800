use Rattle.std.proofs.Common.{◌≡◌, ◌||◌, drop}
use Rattle.soar_sym.specs.declared.symbol.Sym.{Sym}
use Rattle.defs_soar.specs.Sorted.{has_symbol}
use Rattle.soar_choose.proofs.beaten.set_of.Given as goal

abbrev pub invariant-symbols : goal.invariant-symbols
invariant-symbols l = (s : Sym) → (has_symbol l.set s || has_symbol (drop l.symbol-index l.symbols) s) ≡ has_symbol l.symbols s
