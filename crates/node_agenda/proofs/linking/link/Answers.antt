use Rattle.std.proofs.Common.{map}
use Rattle.node_table.specs.Nodes.{inner_of}
use Rattle.node_agenda.specs.Turns.{under}
use Rattle.node_agenda.proofs.LinkLemmas.{then_more}
use Rattle.node_agenda.proofs.linking.link.Goals as goal

pub returns : goal.returns
returns c k = then_more (under c.args.key.now.parent c.args.turn) (map (λ m. under m c.args.turn) (inner_of c.args.key.now.step)) c.args.below.now c.add.new.self c.link_inner.new.below k (c.in_ok-add.ensures.ok k) (c.in_ok-link_inner.ensures k)
