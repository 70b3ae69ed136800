use Rattle.std.proofs.Common.{◌≡◌, []}
use Rattle.wave_tests.proofs.trimming.rows_of.Given as goal

abbrev pub invariant-rows : goal.invariant-rows
invariant-rows l = l.prefs.settled ≡ []
