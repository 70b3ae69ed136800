use Rattle.soar_wm.proofs.IndexLemmas.{puts}
use Rattle.soar_wm.proofs.index.Index.remove.Goals as goal

pub returns : goal.returns
returns c = puts _ c.packed.result c.place_of.result _ _ _ _ _ c.packed.ensures c.place_of.ensures c.remove.ensures.updates.0 c.remove-2.ensures.updates.0
