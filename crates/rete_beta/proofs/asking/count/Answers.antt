use Rattle.std.proofs.Common.{◌≡◌, ◌+◌, ◌<◌, ◌∙◌, refl, ap, Some, arith}
use Rattle.std.specs.Option.{option_map}
use Rattle.std.specs.BTreeMap as numbers_of
use Rattle.slab.specs.Slab.{get}
use Rattle.node_table.specs.Nodes.{key_cmp, one_more}
use Rattle.node_table.proofs.DropLemmas.{cond_here, cond_others}
use Rattle.rete_beta.proofs.NetworkLemmas.{node_keyed, asks_again, links_counted, takers_counted, stamps_counted, root_counted, whole_counted, numbered_counted, hear_kept, holds_counted}
use Rattle.rete_beta.proofs.asking.count.Goals as goal

pub returns-clause-network : goal.returns-clause-network
returns-clause-network c =
    let net = c.args.net.now in
    let n = c.requires.network in
    let xs = net.nodes.slots in
    let ys = c.ask_again.new.nodes.slots in
    let old = get net.nodes in
    let new = get c.ask_again.new.nodes in
    let x = node_keyed old c.args.n c.args.key.now c.requires.keyed in
    let now = one_more x.0 in
    let is : new c.args.n ≡ Some (one_more x.0) = cond_here old new (option_map one_more) c.args.n c.in_ok-ask_again.ensures.ok ∙ ap (option_map one_more) x.1 in
    let others = cond_others old new (option_map one_more) c.args.n c.in_ok-ask_again.ensures.ok in
    let some : 0 < x.0.requests + 1 = omega arith in
    record {
      works = n.works;
      whole = whole_counted xs ys c.args.n x.0 now x.1 is refl others (numbers_of.get key_cmp net.numbers) (numbers_of.get key_cmp net.numbers) net.alpha net.made some n.whole
          (numbered_counted xs ys c.args.n x.0 now x.1 is refl others (numbers_of.get key_cmp net.numbers) n.whole.numbered);
      links = links_counted xs ys c.args.n x.0 now x.1 is refl others net.below n.links;
      takers = takers_counted xs ys c.args.n x.0 now x.1 is refl others net.takers n.takers;
      stamps = stamps_counted xs ys c.args.n x.0 now x.1 is refl others net.stamp n.stamps;
      elements = n.elements;
      rising = n.rising;
      hear = hear_kept xs ys c.args.n x.0 now x.1 is refl others net.made net.alpha.elements n.whole.table some n.hear;
      holds = holds_counted xs ys c.args.n x.0 now x.1 is refl others net.made net.alpha.elements n.whole.table some n.holds;
      root = root_counted xs ys c.args.n x.0 now x.1 is refl others n.root;
    }

pub returns-clause-asks : goal.returns-clause-asks
returns-clause-asks c =
    let net = c.args.net.now in
    let old = get net.nodes in
    let new = get c.ask_again.new.nodes in
    let x = node_keyed old c.args.n c.args.key.now c.requires.keyed in
    let is : new c.args.n ≡ Some (one_more x.0) = cond_here old new (option_map one_more) c.args.n c.in_ok-ask_again.ensures.ok ∙ ap (option_map one_more) x.1 in
    asks_again (numbers_of.get key_cmp net.numbers) old new c.args.key.now c.args.n x.0 c.requires.network.whole.numbered x.1 x.2 is (cond_others old new (option_map one_more) c.args.n c.in_ok-ask_again.ensures.ok)
