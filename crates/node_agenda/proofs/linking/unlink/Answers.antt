use Rattle.std.proofs.Common.{map}
use Rattle.node_table.specs.Nodes.{inner_of}
use Rattle.node_agenda.specs.Turns.{under}
use Rattle.node_agenda.proofs.LinkLemmas.{then_less}
use Rattle.node_agenda.proofs.linking.unlink.Goals as goal

pub returns : goal.returns
returns c k = then_less (under c.args.key.now.parent c.args.turn) (map (λ m. under m c.args.turn) (inner_of c.args.key.now.step)) c.args.below.now c.remove.new.self c.unlink_inner.new.below k (c.remove.ensures k) (c.unlink_inner.ensures k)
