use Rattle.std.proofs.Common.{◌≡◌, take}
use Rattle.settle_changes.proofs.same.is_same_symbols.Given as goal

abbrev pub invariant-places : goal.invariant-places
invariant-places l = take l.at l.a ≡ take l.at l.b
