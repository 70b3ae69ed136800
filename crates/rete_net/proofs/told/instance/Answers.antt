use Rattle.std.proofs.Common.{ap}
use Rattle.match_changes.specs.declared.key.MatchKey.{MatchKey}
use Rattle.rete_beta.proofs.ViewLemmas.{if_ok}
use Rattle.rete_net.proofs.ToldLemmas.{none_under, the_one}
use Rattle.rete_net.proofs.told.instance.Goals as goal

pub returns-in_default : goal.returns-in_default
returns-in_default c i there same =
    let l = c.args.loaded.now in
    none_under l.chains.entries l.joins.elements c.args.key.now.rule c.requires.numbered c.requires.whole.apart c.in_default.ensures.value i there (ap (λ (k : MatchKey). k.rule) same)

pub returns : goal.returns
returns c =
    let l = c.args.loaded.now in
    if_ok (λ found one. the_one l.chains.entries l.joins.elements c.args.key.now.rule c.requires.numbered c.requires.whole.apart c.in-Some.chain.now c.args.key.now.tags found c.in-Some.ensures.value one)
    c.instance.result c.instance.ensures
