use Rattle.std.proofs.Common.{map}
use Rattle.std.specs.Map.{values_of}
use Rattle.defs_match.specs.Rules.{rule_seen}
use Rattle.rete_net.specs.Chains.{rule_of}
use Rattle.rete_net.proofs.ToldLemmas.{rule_comes}
use Rattle.rete_net.proofs.told.load.Goals as goal

pub returns-clause-told : goal.returns-clause-told
returns-clause-told c =
    let old = c.args.loaded.now in
    let new = c.load.new.loaded in
    rule_comes (map rule_of (values_of old.chains.entries)) (map rule_of (values_of new.chains.entries)) (rule_seen c.args.rule.now) new.joins.elements old.joins.elements c.in_ok-told.told
    c.in_ok-load.ensures.rules c.in_ok-load.ensures.elements c.in_ok-told.ensures
