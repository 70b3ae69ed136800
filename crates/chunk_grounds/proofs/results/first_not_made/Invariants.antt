use Rattle.std.proofs.Common.{◌≡◌, drop, filter, not}
use Rattle.defs_soar.specs.ChainIdentifiers.{is_made_by}
use Rattle.defs_soar.specs.History.{chain_seen}
use Rattle.defs_soar.specs.Ungrounded.{first_without}
use Rattle.chunk_grounds.proofs.results.first_not_made.Given as goal

abbrev pub invariant-symbols : goal.invariant-symbols
invariant-symbols l =
    first_without l.places (filter (λ s. not (is_made_by (chain_seen l.told.chain.now) s)) (drop l.symbol-index l.symbols))
    ≡ first_without l.places (filter (λ s. not (is_made_by (chain_seen l.told.chain.now) s)) l.symbols)
