use Rattle.std.proofs.Common.{None}
use Rattle.soar_prefs.proofs.MarkLemmas.{wrote}
use Rattle.soar_prefs.proofs.places.take.Goals as goal

pub returns : goal.returns
returns g c = wrote g.K.Ord.cmp _ _ (c.args.key, c.args.number) None c.remove.ensures.updates.0
