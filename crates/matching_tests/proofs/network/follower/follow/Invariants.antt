use Rattle.matching_tests.specs.NetworkWorlds.{SameContents}
use Rattle.matching_tests.proofs.network.follower.follow.Given as goal

abbrev pub invariant-told : goal.invariant-told
invariant-told l = SameContents l.initial.net l.net
