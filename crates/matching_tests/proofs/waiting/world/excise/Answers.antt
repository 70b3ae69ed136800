use Rattle.std.proofs.Common.{rules, ◌==◌, not}
use Rattle.std.proofs.lemmas.Fn.{filter_same}
use Rattle.matching_tests.proofs.WaitingWorldLemmas.{told_excised}
use Rattle.matching_tests.proofs.waiting.world.excise.Goals as goal

pub returns-then-has-clause-told : goal.returns-then-has-clause-told
returns-then-has-clause-told g c =
    let told = c.rule_goes.ensures in
    let left = filter_same _ (λ n. not (n == c.args.number)) _ (λ x b f' k. search rules) _ _ c.retain.ensures.filtered in
    told_excised (g.M.Matcher.failed c.args.matcher.now) (g.M.Matcher.failed c.rule_goes.new.self) (g.M.Matcher.rules c.args.matcher.now) (g.M.Matcher.rules c.rule_goes.new.self)
    (g.M.Matcher.elements c.args.matcher.now) (g.M.Matcher.elements c.rule_goes.new.self) c.args.world.now.memory c.args.world.now.numbers.items c.retain.new.self.items
    c.args.number c.requires told.works told.elements told.rules left
