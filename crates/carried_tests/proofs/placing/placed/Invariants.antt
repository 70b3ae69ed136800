use Rattle.std.proofs.Common.{◌≡◌, [], drop, map, flat_map}
use Rattle.carried_tests.specs.Parts.{placed_of}
use Rattle.carried_tests.specs.Seen.{carried_seen, placed_seen}
use Rattle.defs_soar.specs.CarriedTests.{placed_once}
use Rattle.carried_tests.proofs.placing.placed.Given as goal

abbrev pub invariant-tests : goal.invariant-tests
invariant-tests l =
    placed_once (map placed_seen l.placed.items) (flat_map (placed_of l.elements) (map carried_seen (drop l.test-index l.tests)))
    ≡ placed_once [] (flat_map (placed_of l.elements) (map carried_seen l.tests))
