use Rattle.outstanding.proofs.HoldLemmas.{rule_removed}
use Rattle.outstanding.proofs.telling.remove_rule.Goals as goal

pub returns-clause-holds : goal.returns-clause-holds
returns-clause-holds g c =
    rule_removed (g.M.Matcher.rules c.args.matcher.now) (g.M.Matcher.elements c.args.matcher.now) c.args.kept.now c.leave_rule.new.kept c.requires.holds c.args.number c.leave_rule.ensures.kept
    (g.M.Matcher.rules c.remove_rule.new.self) (c.remove_rule.ensures.rules c.requires.works) (g.M.Matcher.elements c.remove_rule.new.self) (c.remove_rule.ensures.elements c.requires.works)
