use Rattle.std.proofs.Common.{◌∙◌, ap}
use Rattle.rete_alpha.specs.Numbers.{without_number}
use Rattle.rete_alpha.proofs.TagLemmas.{taken}
use Rattle.rete_alpha.proofs.tags.Tags.remove.Goals as goal

pub returns : goal.returns
returns c = c.remove.ensures.keys ∙ taken c.args.tag c.self.inside.set.keys ∙ ap (without_number c.args.tag) c.self.view_is
