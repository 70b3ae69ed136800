use Rattle.rete_net.proofs.ToldLemmas.{change_told}
use Rattle.rete_net.proofs.told.remove.Goals as goal

pub returns-clause-told : goal.returns-clause-told
returns-clause-told c =
    let old = c.args.loaded.now in
    let new = c.remove.new.loaded in
    change_told c.canonical_forms_match.ensures.instances old.chains.entries new.chains.entries new.ends old.joins new.joins c.in_ok-served.served c.as_slice.result.now c.in_ok-told.told c.requires.loaded.whole.root c.requires.loaded.whole.served
    c.in_ok-served.ensures.chains c.in_ok-served.ensures.loaded.ends c.in_ok-served.ensures.told c.as_slice.ensures c.in_ok-told.ensures
