use Rattle.std.proofs.Common.{◌≡◌, drop}
use Rattle.defs_soar.specs.History.{chain_seen}
use Rattle.defs_soar.specs.Ungrounded.{wrong_in_wishes}
use Rattle.chunk_grounds.proofs.results.first_in_wishes.Given as goal

abbrev pub invariant-wishes : goal.invariant-wishes
invariant-wishes l =
    wrong_in_wishes (chain_seen l.told.chain.now) l.places l.led (drop l.wish-index l.wishes) ≡ wrong_in_wishes (chain_seen l.told.chain.now) l.places l.led l.wishes
