use Rattle.std.proofs.Common.{[]}
use Rattle.level_change.proofs.HoldLemmas.{stands_of, empty_holds}
use Rattle.level_change.proofs.graph.LevelGraph.new.Goals as goal

pub returns : goal.returns
returns c =
    stands_of c.no_levels.result c.empty.result c.empty-2.result [] [] _ _ c.new.ensures
    (empty_holds c.no_levels.result c.empty.result c.empty-2.result c.no_levels.ensures.base c.no_levels.ensures.late c.empty.ensures.base c.empty.ensures.late c.empty-2.ensures.base c.empty-2.ensures.late)
