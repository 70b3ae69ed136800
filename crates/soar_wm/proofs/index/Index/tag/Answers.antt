use Rattle.std.proofs.Common.{◌∙◌, ap}
use Rattle.soar_wm.specs.Shelf.{at_triple}
use Rattle.soar_wm.proofs.index.Index.tag.Goals as goal

pub returns : goal.returns
returns c = c.copied.ensures ∙ c.get.ensures.value ∙ ap (at_triple c.args.self.now.triples.entries) c.new.ensures
