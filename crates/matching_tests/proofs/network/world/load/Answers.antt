use Rattle.defs_match.specs.Rules.{rule_seen}
use Rattle.matching_tests.proofs.NetworkWorldLemmas.{told_rule}
use Rattle.matching_tests.proofs.network.world.load.Goals as goal

pub returns : goal.returns
returns g c =
    let told = c.in_ok-add_rule.ensures in
    told_rule (g.M.Matcher.failed c.args.matcher.now) (g.M.Matcher.failed c.add_rule.new.self) (g.M.Matcher.rules c.args.matcher.now) (g.M.Matcher.rules c.add_rule.new.self)
    (g.M.Matcher.elements c.args.matcher.now) (g.M.Matcher.elements c.add_rule.new.self) c.args.world.now.memory c.args.world.now.numbers.items c.push.new.self.items
    (rule_seen c.args.ready.now.rule) c.requires told.works.works told.elements told.rules c.in_ok-push.ensures.items
