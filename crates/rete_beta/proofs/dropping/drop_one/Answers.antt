use Rattle.std.proofs.Common.{◌≡◌, ◌∙◌, ◌-◌, refl, sym, subst, Some}
use Rattle.soar_wm.specs.WorkingMemory.{IsRising}
use Rattle.node_memory.specs.Held.{SameElements}
use Rattle.node_table.specs.Content.{AllHold}
use Rattle.node_table.specs.Hearing.{AllHear}
use Rattle.slab.specs.Slab.{get}
use Rattle.node_table.specs.Nodes.{one_less}
use Rattle.node_table.specs.declared.node.Node.{Node}
use Rattle.node_table.proofs.DropLemmas.{cond_here, cond_others}
use Rattle.rete_beta.proofs.NetworkLemmas.{node_asked, one_of_several, drops_of, links_counted, takers_counted, stamps_counted, root_counted, hear_kept, holds_counted}
use Rattle.node_table.proofs.CountLemmas.{table_counted}
use Rattle.rete_beta.proofs.dropping.drop_one.Goals as goal

pub returns-clause-network : goal.returns-clause-network
returns-clause-network c =
    let net = c.args.net.now in
    let n = c.requires.network in
    let xs = net.nodes.slots in
    let ys = c.drop_node.new.nodes.slots in
    let old = get net.nodes in
    let new = get c.drop_node.new.nodes in
    let x = node_asked old c.args.n c.requires.can.asked c.requires.can.here in
    let several = one_of_several (old c.args.n) x.0 x.1 c.requires.more in
    let now : Node = record x.0 { requests = x.0.requests - 1 } in
    let is : new c.args.n ≡ Some now = cond_here old new one_less c.args.n c.drop_node.ensures.nodes ∙ several.0 in
    let others = cond_others old new one_less c.args.n c.drop_node.ensures.nodes in
    record {
      works = c.drop_node.ensures.works;
      whole = record {
        numbered = c.drop_node.ensures.numbered;
        table = table_counted old new c.args.n net.made n.whole.table x.0 now x.1 is refl several.1 others;
        asked = c.drop_node.ensures.asked;
      };
      links = links_counted xs ys c.args.n x.0 now x.1 is refl others net.below n.links;
      takers = takers_counted xs ys c.args.n x.0 now x.1 is refl others net.takers n.takers;
      stamps = stamps_counted xs ys c.args.n x.0 now x.1 is refl others net.stamp n.stamps;
      elements = subst (SameElements net.index) (sym c.drop_node.ensures.elements) n.elements;
      rising = subst IsRising (sym c.drop_node.ensures.elements) n.rising;
      hear = subst (AllHear new) (sym c.drop_node.ensures.elements) (hear_kept xs ys c.args.n x.0 now x.1 is refl others net.made net.alpha.elements n.whole.table several.1 n.hear);
      holds = subst (AllHold new) (sym c.drop_node.ensures.elements) (holds_counted xs ys c.args.n x.0 now x.1 is refl others net.made net.alpha.elements n.whole.table several.1 n.holds);
      root = root_counted xs ys c.args.n x.0 now x.1 is refl others n.root;
    }

pub returns-clause-drops : goal.returns-clause-drops
returns-clause-drops c =
    drops_of (get c.args.net.now.nodes) (get c.drop_node.new.nodes) c.args.n (cond_here (get c.args.net.now.nodes) (get c.drop_node.new.nodes) one_less c.args.n c.drop_node.ensures.nodes)
    (cond_others (get c.args.net.now.nodes) (get c.drop_node.new.nodes) one_less c.args.n c.drop_node.ensures.nodes)
