use Rattle.std.proofs.Common.{◌∙◌, subst}
use Rattle.rete_beta.specs.Joins.{node_at}
use Rattle.rete_net.specs.Requests.{CanDropAll, DropsTo}
use Rattle.rete_net.proofs.DropLemmas.{can_drop, can_still, drops_more}
use Rattle.rete_net.proofs.dropping.drop_all.Goals as goal

pub drop_node-requires : goal.drop_node-requires
drop_node-requires c =
    let nodes = node_at c.nodes.joins in
    let can = subst (CanDropAll nodes) c.in-Some.ensures c.nodes.invariant.can in
    record { can = λ _. can_drop nodes c.pop.new.self c.in-Some.n can (c.law.ensures c.nodes.invariant.works) }

pub nodes-preserved : goal.nodes-preserved
nodes-preserved c =
    let nodes = node_at c.nodes.joins in
    let new = node_at c.drop_node.new.self in
    let rest = c.pop.new.self in
    let last = c.in-Some.n in
    let can = subst (CanDropAll nodes) c.in-Some.ensures c.nodes.invariant.can in
    let drops = c.drop_node.ensures.drops c.nodes.invariant.works in
    record {
      works = c.drop_node.ensures.works ∙ c.nodes.invariant.works;
      can = can_still nodes rest last can new drops;
      drops = drops_more nodes rest last can new drops (node_at c.args.joins.now) c.args.nodes (subst (DropsTo (node_at c.args.joins.now) nodes c.args.nodes) c.in-Some.ensures c.nodes.invariant.drops);
      elements = c.drop_node.ensures.elements c.nodes.invariant.works ∙ c.nodes.invariant.elements;
    }
