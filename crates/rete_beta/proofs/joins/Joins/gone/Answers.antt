use Rattle.std.proofs.Common.{◌∙◌, sym, ap}
use Rattle.rete_beta.specs.Joins.{JoinsOf, Told}
use Rattle.rete_beta.proofs.ToldLemmas.{tells_in}
use Rattle.rete_beta.proofs.joins.Joins.gone.Goals as goal

pub returns : goal.returns
returns c = c.gone_from.ensures ∙ ap (λ (t : Told). t.gone) (tells_in c.args.self.now c.self.inside.network.nodes.slots c.args.n (sym (ap (λ (v : JoinsOf). v.told) c.self.view_is)))
