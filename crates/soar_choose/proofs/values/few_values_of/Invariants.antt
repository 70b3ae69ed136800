use Rattle.std.proofs.Common.{◌≡◌, drop}
use Rattle.defs_soar.specs.Choice.{values_of}
use Rattle.soar_choose.proofs.values.few_values_of.Given as goal

abbrev pub invariant-rows : goal.invariant-rows
invariant-rows l = l.values.items ≡ values_of l.table l.kind (drop l.at l.rows)
