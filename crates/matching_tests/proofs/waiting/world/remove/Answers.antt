use Rattle.matching_tests.proofs.WaitingWorldLemmas.{may_go}
use Rattle.matching_tests.proofs.waiting.world.remove.Goals as goal

pub element_goes-requires : goal.element_goes-requires
element_goes-requires g c = record {
  there = λ _. may_go (g.M.Matcher.elements c.args.matcher.now) c.args.world.now.memory c.args.triple c.in-Some.tag c.requires.elements_are c.in-Some.ensures;
}
