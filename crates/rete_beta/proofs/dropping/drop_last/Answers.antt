use Rattle.std.proofs.Common.{sym, subst}
use Rattle.slab.specs.Slab.{get}
use Rattle.soar_wm.specs.WorkingMemory.{IsRising}
use Rattle.node_memory.specs.Held.{SameElements}
use Rattle.node_table.specs.Nodes.{one_less}
use Rattle.node_table.specs.Content.{AllHold}
use Rattle.node_table.specs.Hearing.{AllHear}
use Rattle.node_table.proofs.DropLemmas.{cond_here, cond_others}
use Rattle.rete_beta.proofs.NetworkLemmas.{drops_of, table_dropped, hear_dropped, holds_dropped, links_dropped, takers_dropped, stamps_dropped, root_dropped}
use Rattle.rete_beta.proofs.dropping.drop_last.Goals as goal

pub returns-clause-network : goal.returns-clause-network
returns-clause-network c =
    let net = c.args.net.now in
    let n = c.requires.network in
    let xs = net.nodes.slots in
    let ys = c.drop_node.new.nodes.slots in
    let is = cond_here (get net.nodes) (get c.drop_node.new.nodes) one_less c.args.n c.drop_node.ensures.nodes in
    let others = cond_others (get net.nodes) (get c.drop_node.new.nodes) one_less c.args.n c.drop_node.ensures.nodes in
    record {
      works = c.drop_node.ensures.works;
      whole = record {
        numbered = c.drop_node.ensures.numbered;
        table = table_dropped xs ys c.args.n net.made n.whole.table c.requires.can c.requires.last is others;
        asked = c.drop_node.ensures.asked;
      };
      links = links_dropped xs ys c.args.n net.made n.whole.table c.requires.can c.requires.last is others net.below c.unlink_node.new.below n.links c.unlink_node.ensures;
      takers = takers_dropped xs ys c.args.n net.made n.whole.table c.requires.can c.requires.last is others net.takers c.forget_taker.new.takers n.takers c.forget_taker.ensures;
      stamps = stamps_dropped xs ys c.args.n net.made n.whole.table c.requires.can c.requires.last is others net.stamp n.stamps;
      elements = subst (SameElements net.index) (sym c.drop_node.ensures.elements) n.elements;
      rising = subst IsRising (sym c.drop_node.ensures.elements) n.rising;
      hear = subst (AllHear (get c.drop_node.new.nodes)) (sym c.drop_node.ensures.elements) (hear_dropped xs ys c.args.n net.made n.whole.table c.requires.can c.requires.last is others net.alpha.elements n.hear);
      holds = subst (AllHold (get c.drop_node.new.nodes)) (sym c.drop_node.ensures.elements) (holds_dropped xs ys c.args.n net.made n.whole.table c.requires.can c.requires.last is others net.alpha.elements n.holds);
      root = root_dropped xs ys c.args.n net.made n.whole.table c.requires.can c.requires.last is others n.root;
    }

pub returns-clause-drops : goal.returns-clause-drops
returns-clause-drops c =
    drops_of (get c.args.net.now.nodes) (get c.drop_node.new.nodes) c.args.n (cond_here (get c.args.net.now.nodes) (get c.drop_node.new.nodes) one_less c.args.n c.drop_node.ensures.nodes)
    (cond_others (get c.args.net.now.nodes) (get c.drop_node.new.nodes) one_less c.args.n c.drop_node.ensures.nodes)
