use Rattle.std.proofs.Common.{◌≡◌, ◌||◌, drop}
use Rattle.std.specs.List.{list_any}
use Rattle.soar_sym.specs.declared.symbol.Sym.{Sym}
use Rattle.defs_soar.specs.Sorted.{has_symbol}
use Rattle.soar_choose.specs.Told.{beats_in_row}
use Rattle.soar_choose.proofs.beaten.beaten_by.Given as goal

abbrev pub invariant-rows : goal.invariant-rows
invariant-rows l = (s : Sym) → (list_any (beats_in_row l.candidates s) (drop l.row-index l.rows) || has_symbol l.beaten s) ≡ list_any (beats_in_row l.candidates s) l.rows
