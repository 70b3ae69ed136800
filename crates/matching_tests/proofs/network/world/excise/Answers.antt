use Rattle.std.proofs.Common.{rules, ◌==◌, not}
use Rattle.std.proofs.lemmas.Fn.{filter_same}
use Rattle.matching_tests.proofs.NetworkWorldLemmas.{told_excised}
use Rattle.matching_tests.proofs.network.world.excise.Goals as goal

pub returns-then-has : goal.returns-then-has
returns-then-has g c =
    let told = c.remove_rule.ensures in
    let left = filter_same _ (λ n. not (n == c.args.number)) _ (λ x b f' k. search rules) _ _ c.retain.ensures.filtered in
    told_excised (g.M.Matcher.failed c.args.matcher.now) (g.M.Matcher.failed c.remove_rule.new.self) (g.M.Matcher.rules c.args.matcher.now) (g.M.Matcher.rules c.remove_rule.new.self)
    (g.M.Matcher.elements c.args.matcher.now) (g.M.Matcher.elements c.remove_rule.new.self) c.args.world.now.memory c.args.world.now.numbers.items c.retain.new.self.items
    c.args.number c.requires told.works told.elements told.rules left
