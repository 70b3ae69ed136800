use Rattle.std.proofs.Common.{◌≡◌, ◌++◌, map}
use Rattle.defs_soar.specs.declared.preference.Preference.{Preference}
use Rattle.wave_parts.proofs.forgetting.add_rows.Given as goal

abbrev pub invariant-rows : goal.invariant-rows
invariant-rows l = l.roots ++ map (λ (row : Preference). row.firing) l.row-iterator ≡ l.initial.roots ++ map (λ (row : Preference). row.firing) l.prefs.rows
