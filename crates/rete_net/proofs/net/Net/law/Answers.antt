use Rattle.std.proofs.Common.{◌∙◌, ap, subst}
use Rattle.std.specs.Map.{values_of}
use Rattle.rete_beta.specs.Joins.{node_at}
use Rattle.rete_net.specs.Nets.{IsShared, NetOf}
use Rattle.rete_net.proofs.LoadLemmas.{needed}
use Rattle.rete_net.proofs.net.Net.law.Goals as goal

pub returns : goal.returns
returns c works =
    let loaded = c.self.invariant (ap (λ (v : NetOf). v.failed) c.self.view_is ∙ works) in
    let are = c.law.ensures loaded.works in
    subst IsShared c.self.view_is
    (record {
      differ = are;
      root = loaded.whole.root;
      served = loaded.whole.served;
      needed = needed (values_of c.self.inside.loaded.chains.entries) (node_at c.self.inside.loaded.joins) loaded.whole are;
    })
