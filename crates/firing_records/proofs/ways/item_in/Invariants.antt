use Rattle.std.proofs.Common.{◌≡◌, drop}
use Rattle.defs_soar.specs.Uses.{item_in}
use Rattle.firing_records.proofs.ways.item_in.Given as goal

abbrev pub invariant-items : goal.invariant-items
invariant-items l = item_in (drop l.item-index l.items) l.value ≡ item_in l.items l.value
