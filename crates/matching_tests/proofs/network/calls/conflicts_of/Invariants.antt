use Rattle.matching_tests.specs.NetworkWorlds.{AreTold}
use Rattle.matching_tests.proofs.network.calls.conflicts_of.Given as goal

abbrev pub invariant-calls : goal.invariant-calls
invariant-calls g l = AreTold (g.M.Matcher.failed l.matcher) (g.M.Matcher.rules l.matcher) (g.M.Matcher.elements l.matcher) l.world.memory l.world.numbers.items
