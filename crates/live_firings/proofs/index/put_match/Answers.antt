use Rattle.std.proofs.Common.{Some}
use Rattle.open_instances.specs.Keys.{key_cmp}
use Rattle.live_firings.proofs.PlaceLemmas.{wrote}
use Rattle.live_firings.proofs.index.put_match.Goals as goal

pub returns-clause-ok : goal.returns-clause-ok
returns-clause-ok c = wrote key_cmp _ _ (c.args.key, c.args.place) (Some tt) c.in_ok-insert.ensures.updates.0
