use Rattle.std.proofs.Common.{◌∙◌, ap}
use Rattle.rete_net.specs.Nets.{live_nodes}
use Rattle.rete_net.proofs.net.Net.nodes.Goals as goal

pub returns : goal.returns
returns c = c.nodes.ensures ∙ ap live_nodes c.self.view_is
