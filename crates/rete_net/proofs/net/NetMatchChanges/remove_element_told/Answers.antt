use Rattle.std.proofs.Common.{subst, map}
use Rattle.defs_match.specs.Conflict.{conflict}
use Rattle.match_changes.specs.Told.{AreTold}
use Rattle.rete_beta.proofs.ViewLemmas.{if_ok}
use Rattle.rete_net.specs.Chains.{rule_of}
use Rattle.rete_net.specs.Loads.{conflict_in}
use Rattle.rete_net.specs.Nets.{NetOf}
use Rattle.rete_net.proofs.net.NetMatchChanges.remove_element_told.Goals as goal

pub returns-clause-told : goal.returns-clause-told
returns-clause-told c =
    if_ok (λ keys told. subst (λ (v : NetOf). AreTold (conflict (map rule_of v.chains) v.elements) (conflict_in c.remove-told.new.loaded) keys) c.self.view_is told) c.remove-told.result c.remove-told.ensures.told
