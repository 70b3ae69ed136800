use Rattle.std.proofs.Common.{◌≡◌, ◌∷◌, map, take}
use Rattle.explained_firings.proofs.results.roots_of.Given as goal

abbrev pub invariant-results : goal.invariant-results
invariant-results l = l.roots ≡ l.number ∷ map (λ row. row.firing) (take l.row-index l.results)
