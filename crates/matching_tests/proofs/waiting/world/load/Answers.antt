use Rattle.defs_match.specs.Rules.{rule_seen}
use Rattle.matching_tests.proofs.WaitingWorldLemmas.{told_rule}
use Rattle.matching_tests.proofs.waiting.world.load.Goals as goal

pub returns-clause-told : goal.returns-clause-told
returns-clause-told g c =
    let told = c.in_ok-rule_comes.ensures in
    told_rule (g.M.Matcher.failed c.args.matcher.now) (g.M.Matcher.failed c.rule_comes.new.self) (g.M.Matcher.rules c.args.matcher.now) (g.M.Matcher.rules c.rule_comes.new.self)
    (g.M.Matcher.elements c.args.matcher.now) (g.M.Matcher.elements c.rule_comes.new.self) c.args.world.now.memory c.args.world.now.numbers.items c.push.new.self.items
    (rule_seen c.args.ready.now.rule) c.requires told.works.works told.elements told.rules c.in_ok-push.ensures.items
