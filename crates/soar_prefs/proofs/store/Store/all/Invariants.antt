use Rattle.std.proofs.Common.{◌≡◌, ◌++◌}
use Rattle.std.specs.Map.{values_of}
use Rattle.soar_prefs.proofs.store.Store.all.Given as goal

abbrev pub invariant-rows : goal.invariant-rows
invariant-rows l = l.all ++ l.row-iterator ≡ values_of l.fn.self.rows.entries
