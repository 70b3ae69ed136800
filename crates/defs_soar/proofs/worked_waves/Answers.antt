use Rattle.std.specs.Prelude.{refl}
use Rattle.defs_soar.proofs.Computing.{computing}
use Rattle.defs_soar.proofs.worked_waves.Goals as goal

pub returns-clause-copies : goal.returns-clause-copies
unfolding computing
returns-clause-copies c = (refl, refl, refl, refl, refl)

pub returns-clause-passes_on : goal.returns-clause-passes_on
unfolding computing
returns-clause-passes_on c = (refl, refl)

pub returns-clause-cut : goal.returns-clause-cut
unfolding computing
returns-clause-cut c = (refl, refl)
