use Rattle.std.proofs.Common.{◌≡◌, ◌++◌}
use Rattle.std.specs.Map.{values_of}
use Rattle.live_firings.specs.Living.{keys_of}
use Rattle.live_firings.specs.Store.{from_mark}
use Rattle.live_firings.proofs.reading.came.Given as goal

abbrev pub invariant-rows : goal.invariant-rows
invariant-rows l = l.came ++ keys_of (values_of l.firing-iterator) ≡ keys_of (values_of (from_mark l.store.mark l.store.rows.entries))
