use Rattle.std.proofs.Common.{◌∙◌, ◌++◌, ap, map, List}
use Rattle.defs_match.specs.Conflict.{instances_of}
use Rattle.defs_match.specs.declared.instance.Instance.{Instance}
use Rattle.match_changes.specs.Told.{key_of}
use Rattle.rete_net.specs.Chains.{rule_of}
use Rattle.rete_net.proofs.ToldLemmas.{keys_found, none_under}
use Rattle.rete_net.proofs.told.keys_of_rule.Goals as goal

pub returns-in_default : goal.returns-in_default
returns-in_default c i there is =
    let l = c.args.loaded.now in
    absurd (none_under l.chains.entries l.joins.elements c.args.number c.requires.numbered c.requires.whole.apart c.in_default.ensures.value i there is)

pub returns : goal.returns
returns c =
    let l = c.args.loaded.now in
    let chain = c.in-Some.chain.now in
    keys_found l.chains.entries l.joins.elements c.args.number c.requires.numbered c.requires.whole.apart chain c.in_ok-keys.keys c.in-Some.ensures.value
    (c.in_ok-keys.ensures ∙ ap (map key_of) (c.in_ok-add_instances.ensures ∙ ap (λ (is : List Instance). is ++ instances_of l.joins.elements (rule_of chain)) c.new-instances.ensures))
