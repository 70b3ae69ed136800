use Rattle.std.proofs.Common.{None}
use Rattle.std.specs.Ordering.{nat_cmp}
use Rattle.live_firings.proofs.PlaceLemmas.{wrote}
use Rattle.live_firings.proofs.index.take.Goals as goal

pub returns : goal.returns
returns c = wrote nat_cmp _ _ (c.args.number, c.args.place) (None) c.remove.ensures.updates.0
