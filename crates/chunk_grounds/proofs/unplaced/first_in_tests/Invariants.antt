use Rattle.std.proofs.Common.{◌≡◌, drop, flat_map, map}
use Rattle.carried_tests.specs.Seen.{carried_seen}
use Rattle.defs_soar.specs.Ungrounded.{first_without, symbols_of_carried}
use Rattle.chunk_grounds.proofs.unplaced.first_in_tests.Given as goal

abbrev pub invariant-tests : goal.invariant-tests
invariant-tests l =
    first_without l.places (flat_map symbols_of_carried (map carried_seen (drop l.test-index l.tests)))
    ≡ first_without l.places (flat_map symbols_of_carried (map carried_seen l.tests))
