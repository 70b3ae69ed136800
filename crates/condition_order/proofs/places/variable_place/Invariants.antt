use Rattle.std.proofs.Common.{◌≡◌, drop}
use Rattle.defs_soar.specs.ConditionOrder.{place_from}
use Rattle.condition_order.proofs.places.variable_place.Given as goal

abbrev pub invariant-places : goal.invariant-places
invariant-places l = place_from l.at (drop l.at l.places) l.symbol ≡ place_from 0 l.places l.symbol
