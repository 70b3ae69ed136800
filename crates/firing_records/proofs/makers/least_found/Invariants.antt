use Rattle.std.proofs.Common.{◌≡◌, drop, None}
use Rattle.firing_records.specs.Makers.{least_maker}
use Rattle.firing_records.proofs.makers.least_found.Given as goal

abbrev pub invariant-rows : goal.invariant-rows
invariant-rows l = least_maker l.least l.element (drop l.row-index l.rows) ≡ least_maker None l.element l.rows
