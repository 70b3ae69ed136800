use Rattle.std.proofs.Common.{◌∙◌, sym, ap, subst, ◌++◌, List, append_assoc, map}
use Rattle.defs_match.specs.Conflict.{conflict, instances_of}
use Rattle.defs_match.specs.declared.instance.Instance.{Instance}
use Rattle.rete_beta.specs.Joins.{node_at}
use Rattle.rete_net.specs.declared.chain.Chain.{Chain}
use Rattle.rete_net.specs.Chains.{AllServed, IsServed, rule_of}
use Rattle.rete_net.specs.Requests.{key_in}
use Rattle.rete_net.proofs.LoadLemmas.{all_later}
use Rattle.rete_net.proofs.reading.conflict.Goals as goal

pub chains-preserved : goal.chains-preserved
chains-preserved c =
    let keys = key_in (node_at c.args.joins.now) in
    let elements = c.args.joins.now.elements in
    record {
      served = all_later (IsServed keys) c.in-Some.chain.now c.next.new.self (subst (AllServed keys) c.in-Some.ensures.steps c.chains.invariant.served);
      told =
          ap (λ (l : List Instance). l ++ conflict (map rule_of c.next.new.self) elements) c.in_ok-add_instances.ensures
          ∙ append_assoc c.chains.out (instances_of elements (rule_of c.in-Some.chain.now)) (conflict (map rule_of c.next.new.self) elements)
          ∙ sym (ap (λ (cs : List Chain). c.chains.out ++ conflict (map rule_of cs) elements) c.in-Some.ensures.steps)
          ∙ c.chains.invariant.told;
    }
