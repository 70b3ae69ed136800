use Rattle.std.proofs.Common.{◌≡◌, ◌||◌, drop}
use Rattle.soar_sym.specs.declared.symbol.Sym.{Sym}
use Rattle.defs_soar.specs.declared.preference.PrefKind.TheVariants as kind
use Rattle.defs_soar.specs.Choice.{says_of}
use Rattle.soar_choose.specs.Told.{has_pair}
use Rattle.soar_choose.proofs.pairs.PairSet.of.Given as goal

abbrev pub invariant-rows : goal.invariant-rows
invariant-rows l = (x y : Sym) → (says_of (drop l.row-index l.rows) kind.IndifferentTo x y || has_pair l.set x y) ≡ says_of l.rows kind.IndifferentTo x y
