use Rattle.std.proofs.Common.{refl}
use Rattle.defs_read.proofs.Computing.{computing}
use Rattle.defs_read.proofs.worked_readings.Goals as goal

pub returns-clause-fields : goal.returns-clause-fields
unfolding computing
returns-clause-fields c = refl

pub returns-clause-negations : goal.returns-clause-negations
unfolding computing
returns-clause-negations c = refl

pub returns-clause-no_arrow : goal.returns-clause-no_arrow
unfolding computing
returns-clause-no_arrow c = refl

pub returns-clause-no_value : goal.returns-clause-no_value
unfolding computing
returns-clause-no_value c = refl

pub returns-clause-two_flags : goal.returns-clause-two_flags
unfolding computing
returns-clause-two_flags c = refl

pub returns-clause-state_in_bars : goal.returns-clause-state_in_bars
unfolding computing
returns-clause-state_in_bars c = refl

pub returns-clause-wrong_calls : goal.returns-clause-wrong_calls
unfolding computing
returns-clause-wrong_calls c = (refl, refl)
