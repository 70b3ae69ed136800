use Rattle.std.proofs.Common.{◌≡◌, drop}
use Rattle.soar_sym.specs.declared.symbol.Sym.{Sym}
use Rattle.level_graph.specs.Listed.{linked}
use Rattle.chunk_results.specs.Held.{leads}
use Rattle.chunk_results.proofs.linking.links_of.Given as goal

abbrev pub invariant-rows : goal.invariant-rows
invariant-rows l = (x y : Sym) → linked l.links x y ≡ leads (drop l.at l.rows) x y
