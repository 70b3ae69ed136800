use Rattle.std.proofs.Common.{◌∙◌, ap, List, ◌++◌}
use Rattle.std.proofs.lemmas.Result.{on_ok_weaker}
use Rattle.defs_match.specs.declared.instance.Instance.{Instance}
use Rattle.rete_beta.specs.Joins.{node_at}
use Rattle.rete_net.proofs.ReadLemmas.{last_live, tokens_tell}
use Rattle.rete_net.proofs.reading.add_instances.Goals as goal

pub tokens-requires : goal.tokens-requires
tokens-requires c = record { live = λ _. last_live (node_at c.args.joins.now) c.args.chain.now c.requires.root c.requires.served }

pub returns : goal.returns
returns c =
    let tell =
    tokens_tell c.canonical_forms_match.ensures.instances (node_at c.args.joins.now) c.args.chain.now c.args.joins.now.elements c.in_ok-tokens.tokens c.requires.root c.requires.served c.in_ok-tokens.ensures.tokens in
    on_ok_weaker c.add_numbered.result (λ more. more ∙ ap (λ (l : List Instance). c.args.out.now ++ l) tell) c.add_numbered.ensures
