use Rattle.std.proofs.Common.{◌≡◌, subst, map}
use Rattle.defs_match.specs.Conflict.{conflict}
use Rattle.match_changes.specs.Told.{of_rule}
use Rattle.rete_beta.proofs.ViewLemmas.{if_ok}
use Rattle.rete_net.specs.Chains.{rule_of}
use Rattle.rete_net.specs.Nets.{NetOf}
use Rattle.rete_net.proofs.net.NetMatchChanges.instances_of.Goals as goal

pub returns-clause-found : goal.returns-clause-found
returns-clause-found c =
    if_ok (λ found are. subst (λ (v : NetOf). found ≡ of_rule c.args.number (conflict (map rule_of v.chains) v.elements)) c.self.view_is are) c.instances_of-found.result c.instances_of-found.ensures
