use Rattle.std.proofs.Common.{◌≡◌, ◌++◌, map, take}
use Rattle.carried_tests.specs.Seen.{placed_seen}
use Rattle.defs_soar.specs.CarriedTests.{tests_at}
use Rattle.chunk_forms.proofs.conditions.add_tests.Given as goal

abbrev pub invariant-placed : goal.invariant-placed
invariant-placed l = l.tests ≡ l.initial.tests ++ tests_at (map placed_seen (take l.test-index l.placed)) l.at
