use Rattle.std.proofs.Common.{Some}
use Rattle.std.specs.Ordering.{nat_cmp}
use Rattle.live_firings.proofs.PlaceLemmas.{wrote}
use Rattle.live_firings.proofs.index.put.Goals as goal

pub returns-clause-ok : goal.returns-clause-ok
returns-clause-ok c = wrote nat_cmp _ _ (c.args.number, c.args.place) (Some tt) c.in_ok-insert.ensures.updates.0
