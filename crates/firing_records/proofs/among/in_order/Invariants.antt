use Rattle.std.proofs.Common.{◌≡◌, drop}
use Rattle.firing_records.specs.Among.{in_order}
use Rattle.firing_records.proofs.among.in_order.Given as goal

abbrev pub invariant-symbols : goal.invariant-symbols
invariant-symbols l = l.ordered.items ≡ in_order l.table (drop l.at l.symbols)
