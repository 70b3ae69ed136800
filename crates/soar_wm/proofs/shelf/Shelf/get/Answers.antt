use Rattle.std.proofs.Common.{◌∙◌, ap}
use Rattle.soar_wm.specs.WorkingMemory.{element_of}
use Rattle.soar_wm.proofs.ShelfLemmas.{found}
use Rattle.soar_wm.proofs.shelf.Shelf.get.Goals as goal

pub returns : goal.returns
returns c = c.at_tag.ensures ∙ found _ _ c.args.tag c.self.invariant.stored ∙ ap (element_of c.args.tag) c.self.view_is
