use Rattle.std.proofs.Common.{refl}
use Rattle.rete_beta.proofs.ViewLemmas.{starts_shown}
use Rattle.rete_beta.proofs.joins.Joins.new.Goals as goal

pub returns : goal.returns
returns c = starts_shown _ c.in_ok-network.network.nodes.slots refl c.in_ok-network.ensures.elements refl c.in_ok-network.ensures.starts
