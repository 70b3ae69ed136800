use Rattle.std.proofs.Common.{subst, map}
use Rattle.defs_match.specs.Conflict.{conflict}
use Rattle.match_changes.specs.Told.{IsTheOne}
use Rattle.rete_beta.proofs.ViewLemmas.{if_ok}
use Rattle.rete_net.specs.Chains.{rule_of}
use Rattle.rete_net.specs.Nets.{NetOf}
use Rattle.rete_net.proofs.net.NetMatchChanges.instance.Goals as goal

pub returns-clause-found : goal.returns-clause-found
returns-clause-found c =
    if_ok (λ found one. subst (λ (v : NetOf). IsTheOne (conflict (map rule_of v.chains) v.elements) c.args.key.now found) c.self.view_is one) c.instance-found.result c.instance-found.ensures
