use Rattle.std.proofs.Common.{◌≡◌, drop, map}
use Rattle.std.specs.List.{list_any}
use Rattle.carried_tests.specs.Seen.{placed_seen}
use Rattle.defs_soar.specs.CarriedTests.{placed_eq}
use Rattle.carried_tests.proofs.placing.is_among.Given as goal

abbrev pub invariant-placed : goal.invariant-placed
invariant-placed l = list_any (placed_eq (placed_seen l.one)) (map placed_seen (drop l.other-index l.placed)) ≡ list_any (placed_eq (placed_seen l.one)) (map placed_seen l.placed)
