use Rattle.std.proofs.Common.{◌≡◌, drop, flat_map}
use Rattle.defs_soar.specs.Dependencies.{symbols_of_wish}
use Rattle.defs_soar.specs.Sorted.{has_symbol}
use Rattle.chain_identifiers.proofs.newness.is_in_wishes.Given as goal

abbrev pub invariant-wishes : goal.invariant-wishes
invariant-wishes l = has_symbol (flat_map symbols_of_wish (drop l.wish-index l.wishes)) l.symbol ≡ has_symbol (flat_map symbols_of_wish l.wishes) l.symbol
