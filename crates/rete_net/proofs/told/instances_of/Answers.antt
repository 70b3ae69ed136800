use Rattle.std.proofs.Common.{◌∙◌, ◌++◌, ap, sym, List}
use Rattle.defs_match.specs.Conflict.{instances_of}
use Rattle.defs_match.specs.declared.instance.Instance.{Instance}
use Rattle.rete_net.specs.Chains.{rule_of}
use Rattle.rete_net.proofs.OfRuleLemmas.{of_chain, of_none}
use Rattle.rete_net.proofs.told.instances_of.Goals as goal

pub returns-in_default : goal.returns-in_default
returns-in_default c =
    let l = c.args.loaded.now in
    c.new-found.ensures ∙ sym (of_none l.chains.entries l.joins.elements c.args.number c.requires.numbered c.requires.whole.apart c.in_default.ensures.value)

pub returns : goal.returns
returns c =
    let l = c.args.loaded.now in
    let chain = c.in-Some.chain.now in
    c.in_ok-add_instances.ensures ∙ ap (λ (is : List Instance). is ++ instances_of l.joins.elements (rule_of chain)) c.new-found.ensures
    ∙ sym (of_chain l.chains.entries l.joins.elements c.args.number c.requires.numbered c.requires.whole.apart chain c.in-Some.ensures.value)
