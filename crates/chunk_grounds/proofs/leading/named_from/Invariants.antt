use Rattle.std.proofs.Common.{◌≡◌, [], cond, flat_map, take}
use Rattle.defs_soar.specs.Results.{named_by}
use Rattle.defs_soar.specs.Sorted.{has_symbol}
use Rattle.chunk_grounds.proofs.leading.named_from.Given as goal

abbrev pub invariant-wishes : goal.invariant-wishes
invariant-wishes l = l.named ≡ flat_map (λ w. cond (has_symbol l.known w.id) (named_by w) []) (take l.wish-index l.wishes)
