use Rattle.std.proofs.Common.{◌≡◌, false, length}
use Rattle.rete_beta.specs.Joins.{node_at}
use Rattle.rete_net.specs.Requests.{CanDropAll, DropsTo}
use Rattle.rete_net.proofs.dropping.drop_all.Given as goal

abbrev pub invariant-nodes : goal.invariant-nodes
invariant-nodes l = record {
  works : l.joins.failed ≡ false;
  can : CanDropAll (node_at l.joins) l.rest;
  drops : DropsTo (node_at l.initial.joins) (node_at l.joins) l.initial.rest l.rest;
  elements : l.joins.elements ≡ l.initial.joins.elements;
}

abbrev pub decreases-nodes : goal.decreases-nodes
decreases-nodes l = length l.rest
