use Rattle.matching_tests.specs.WaitingWorlds.{AreTold}
use Rattle.matching_tests.proofs.waiting.calls.answers_of.Given as goal

abbrev pub invariant-calls : goal.invariant-calls
invariant-calls g l = record {
  told : AreTold (g.M.Matcher.failed l.matcher) (g.M.Matcher.rules l.matcher) (g.M.Matcher.elements l.matcher) l.world.memory l.world.numbers.items;
  knows : g.M.Outstanding.knows l.matcher l.fired.live.told;
}
