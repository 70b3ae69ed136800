use Rattle.level_change.proofs.StandLemmas.{levels_are_told, stands_by_counts}
use Rattle.level_change.proofs.laws.levels_are_told.Goals as goal

pub returns-clause-levels : goal.returns-clause-levels
returns-clause-levels c = levels_are_told

pub returns-clause-counts : goal.returns-clause-counts
returns-clause-counts c = stands_by_counts
