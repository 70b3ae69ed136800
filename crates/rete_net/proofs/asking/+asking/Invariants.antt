use Rattle.std.proofs.Common.{◌≡◌, false, take}
use Rattle.soar_rule.specs.Conditions.{conditions}
use Rattle.rete_beta.specs.Joins.{node_at}
use Rattle.rete_net.specs.Leading.{Leads}
use Rattle.rete_net.specs.Requests.{AsksFor}
use Rattle.rete_net.proofs.asking.+asking.Given as goal

abbrev pub invariant-ask_all-conds : goal.invariant-ask_all-conds
invariant-ask_all-conds l = record {
  works : l.joins.failed ≡ false;
  asks : AsksFor (λ keys ns n. Leads keys (conditions (take l.cond-index l.conds)) l.fn.parent ns n) (node_at l.initial.joins) (node_at l.joins) l.initial.nodes l.nodes l.at;
  elements : l.joins.elements ≡ l.initial.joins.elements;
}
