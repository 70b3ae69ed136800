use Rattle.std.proofs.Common.{◌∙◌, sym, ap}
use Rattle.rete_beta.specs.Joins.{live_count}
use Rattle.rete_beta.proofs.ViewLemmas.{count_in}
use Rattle.rete_beta.proofs.joins.Joins.nodes.Goals as goal

pub returns : goal.returns
returns c = c.len.ensures ∙ sym (count_in c.self.inside.network.nodes.slots) ∙ ap live_count c.self.view_is
