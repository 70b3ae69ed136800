use Rattle.matching_tests.proofs.NetworkWorldLemmas.{may_go}
use Rattle.matching_tests.proofs.network.world.remove.Goals as goal

pub remove_element-requires : goal.remove_element-requires
remove_element-requires g c = record {
  there = λ _. may_go (g.M.Matcher.elements c.args.matcher.now) c.args.world.now.memory c.args.triple c.in-Some.tag c.requires.elements_are c.in-Some.ensures;
}
