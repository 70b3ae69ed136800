use Rattle.std.proofs.Common.{◌∙◌, sym, ap}
use Rattle.rete_beta.specs.Joins.{JoinsOf}
use Rattle.rete_beta.proofs.ViewLemmas.{nodes_shown, are_nodes}
use Rattle.rete_beta.proofs.joins.Joins.law.Goals as goal

pub returns : goal.returns
returns c works =
    let whole = (c.self.invariant (ap (λ (v : JoinsOf). v.failed) c.self.view_is ∙ works)).whole in
    nodes_shown c.args.self.now c.self.inside.network.nodes.slots (sym (ap (λ (v : JoinsOf). v.nodes) c.self.view_is)) (are_nodes _ c.self.inside.network.nodes.slots c.self.inside.network.made whole.numbered whole.table)
