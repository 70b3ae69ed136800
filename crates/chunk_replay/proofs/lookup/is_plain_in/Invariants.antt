use Rattle.std.proofs.Common.{◌≡◌, drop}
use Rattle.chunk_replay.specs.LookedUp.{is_plain_in}
use Rattle.chunk_replay.proofs.lookup.is_plain_in.Given as goal

abbrev pub invariant-tests : goal.invariant-tests
invariant-tests l = is_plain_in l.variable (drop l.test-index l.tests) ≡ is_plain_in l.variable l.tests
