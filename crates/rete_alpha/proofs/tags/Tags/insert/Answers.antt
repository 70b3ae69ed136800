use Rattle.std.proofs.Common.{◌∙◌, ap}
use Rattle.rete_alpha.specs.Numbers.{with_number}
use Rattle.rete_alpha.proofs.TagLemmas.{put}
use Rattle.rete_alpha.proofs.tags.Tags.insert.Goals as goal

pub returns-clause-ok : goal.returns-clause-ok
returns-clause-ok c = c.in_ok-insert.ensures.keys ∙ put c.args.tag c.self.inside.set.keys ∙ ap (with_number c.args.tag) c.self.view_is
