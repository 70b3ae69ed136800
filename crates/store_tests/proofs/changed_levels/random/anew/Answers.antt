use Rattle.level_graph.proofs.EndLemmas.{begins}
use Rattle.store_tests.proofs.changed_levels.random.anew.Goals as goal

pub spread-requires-clause-spreads : goal.spread-requires-clause-spreads
spread-requires-clause-spreads c = begins _ _ _ _ c.in_ok-tell_goals.ensures.depths c.in_ok-waiting.ensures
