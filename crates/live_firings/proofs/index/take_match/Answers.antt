use Rattle.std.proofs.Common.{None}
use Rattle.open_instances.specs.Keys.{key_cmp}
use Rattle.live_firings.proofs.PlaceLemmas.{wrote}
use Rattle.live_firings.proofs.index.take_match.Goals as goal

pub returns-clause-marks : goal.returns-clause-marks
returns-clause-marks c = wrote key_cmp _ _ (c.args.key, c.args.place) (None) c.remove.ensures.updates.0
