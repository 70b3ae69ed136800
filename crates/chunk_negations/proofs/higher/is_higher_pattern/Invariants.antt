use Rattle.std.proofs.Common.{◌≡◌, drop}
use Rattle.std.specs.List.{list_any}
use Rattle.defs_soar.specs.History.{chain_seen}
use Rattle.defs_soar.specs.Negations.{is_higher_test}
use Rattle.chunk_negations.proofs.higher.is_higher_pattern.Given as goal

abbrev pub invariant-tests : goal.invariant-tests
invariant-tests l =
    list_any (is_higher_test (chain_seen l.told.chain.now) l.told.depth l.bindings l.values) (drop l.test-index l.pattern.id.tests)
    ≡ list_any (is_higher_test (chain_seen l.told.chain.now) l.told.depth l.bindings l.values) l.pattern.id.tests
