use Rattle.std.proofs.Common.{◌≡◌, map, take}
use Rattle.explained_firings.proofs.results.wishes_of.Given as goal

abbrev pub invariant-results : goal.invariant-results
invariant-results l = l.wishes ≡ map (λ row. row.wish) (take l.row-index l.results)
