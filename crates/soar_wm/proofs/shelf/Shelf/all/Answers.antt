use Rattle.std.proofs.Common.{◌∙◌}
use Rattle.std.proofs.lemmas.Result.{IfOk-weaker}
use Rattle.slab.specs.Slab.{get}
use Rattle.soar_wm.proofs.ShelfLemmas.{all_found}
use Rattle.soar_wm.proofs.shelf.Shelf.all.Goals as goal

pub returns : goal.returns
returns c = IfOk-weaker c.all.result _ _ (λ es told. told ∙ all_found (get c.self.inside.cells) c.self.inside.tags.entries c.self.invariant.stored ∙ c.self.view_is) c.all.ensures
