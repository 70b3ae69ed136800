use Rattle.std.proofs.Common.{◌≡◌, ◌++◌, filter_map}
use Rattle.live_firings.specs.Store.{row_at}
use Rattle.live_firings.proofs.reading.at_places.Given as goal

abbrev pub invariant-places : goal.invariant-places
invariant-places l = l.found ++ filter_map (row_at l.rows.entries) l.place-iterator ≡ filter_map (row_at l.rows.entries) l.places.keys
