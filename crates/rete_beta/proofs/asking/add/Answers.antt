use Rattle.std.proofs.Common.{◌≡◌, sym, subst, ℕ, ◌+◌, arith}
use Rattle.std.specs.BTreeMap as numbers_of
use Rattle.slab.specs.Slab.{get}
use Rattle.soar_wm.specs.WorkingMemory.{IsRising}
use Rattle.node_memory.specs.Held.{SameElements}
use Rattle.node_table.specs.Nodes.{key_cmp}
use Rattle.node_table.specs.Content.{AllHold}
use Rattle.node_table.specs.Making.{IsWhole}
use Rattle.rete_beta.proofs.ElementLemmas.{rising_differ}
use Rattle.rete_beta.proofs.NetworkLemmas.{asks_new, links_more, takers_more, stamps_more, root_more}
use Rattle.rete_beta.proofs.asking.add.Goals as goal

pub returns-clause-network : goal.returns-clause-network
returns-clause-network c =
    let net = c.args.net.now in
    let n = c.requires.network in
    let old = get net.nodes in
    let new = get c.make.new.nodes in
    let adds = c.in_ok-n.ensures.adds in
    let e = c.in_ok-n.ensures.elements in
    let next : c.in-Some.next ≡ c.args.net.now.made + 1 = omega arith in
    record {
      works = c.in_ok-n.ensures.works;
      whole = subst (λ (end : ℕ). IsWhole (numbers_of.get key_cmp c.make.new.numbers) c.make.new.nodes.slots c.make.new.alpha end) (sym next) c.in_ok-n.ensures.whole;
      links = links_more old new c.args.key adds.0 net.made c.in_ok-n.n net.below c.relink.new.below adds.2 n.links c.in_ok-relink.ensures.links;
      takers = takers_more old new c.args.key adds.0 net.made c.in_ok-n.n net.takers c.relink.new.takers adds.2 n.takers c.in_ok-relink.ensures.takers;
      stamps = stamps_more old new c.args.key adds.0 net.made c.in_ok-n.n net.stamp adds.2 n.root.0 n.root.1 n.stamps;
      elements = subst (SameElements net.index) (sym e) n.elements;
      rising = subst IsRising (sym e) n.rising;
      hear = c.in_ok-n.ensures.hear n.hear;
      holds = subst (AllHold new) (sym e) (c.in_ok-n.ensures.hold net.alpha.elements n.holds n.elements (rising_differ net.alpha.elements n.rising));
      root = root_more old new c.args.key adds.0 net.made c.in_ok-n.n adds.2 n.root;
    }

pub returns-clause-asks : goal.returns-clause-asks
returns-clause-asks c =
    let net = c.args.net.now in
    let adds = c.in_ok-n.ensures.adds in
    asks_new (numbers_of.get key_cmp net.numbers) (get net.nodes) (get c.make.new.nodes) c.args.key adds.0 net.made c.in_ok-n.n c.requires.network.whole.numbered c.requires.new adds.2
