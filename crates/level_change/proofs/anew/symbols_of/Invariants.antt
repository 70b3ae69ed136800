use Rattle.std.proofs.Common.{◌≡◌, map, take}
use Rattle.level_change.proofs.anew.symbols_of.Given as goal

abbrev pub invariant-had : goal.invariant-had
invariant-had l = l.symbols ≡ map (λ h. h.id) (take l.it-index l.had)
