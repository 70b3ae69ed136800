use Rattle.std.proofs.lemmas.Result.{on_ok_weaker}
use Rattle.defs_match.specs.Rules.{rule_seen}
use Rattle.outstanding.proofs.HoldLemmas.{rule_added}
use Rattle.outstanding.proofs.telling.add_rule.Goals as goal

pub returns-clause-holds : goal.returns-clause-holds
returns-clause-holds g c =
    let told = c.in_ok-keys.ensures in
    on_ok_weaker c.told.result
    (λ noted. rule_added (g.M.Matcher.rules c.args.matcher.now) (g.M.Matcher.elements c.args.matcher.now) c.args.kept.now c.told.new.kept c.requires.holds
    c.in_ok-keys.keys noted (rule_seen c.args.rule.now) c.requires.new (g.M.Matcher.rules c.add_rule_told.new.self) told.rules (g.M.Matcher.elements c.add_rule_told.new.self) told.elements told.told)
    c.told.ensures.fits
