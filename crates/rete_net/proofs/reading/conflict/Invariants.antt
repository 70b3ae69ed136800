use Rattle.std.proofs.Common.{◌≡◌, ◌++◌, map}
use Rattle.std.specs.Map.{values_of}
use Rattle.defs_match.specs.Conflict.{conflict}
use Rattle.rete_beta.specs.Joins.{node_at}
use Rattle.rete_net.specs.Chains.{AllServed, rule_of}
use Rattle.rete_net.specs.Requests.{key_in}
use Rattle.rete_net.proofs.reading.conflict.Given as goal

abbrev pub invariant-chains : goal.invariant-chains
invariant-chains l = record {
  served : AllServed (key_in (node_at l.joins)) l.chain-iterator;
  told : l.out ++ conflict (map rule_of l.chain-iterator) l.joins.elements ≡ conflict (map rule_of (values_of l.fn.chains.entries)) l.joins.elements;
}
