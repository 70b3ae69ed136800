use Rattle.std.proofs.Common.{refl}
use Rattle.defs_worked.proofs.Computing.{computing}
use Rattle.defs_worked.proofs.worked_support.Goals as goal

pub returns-clause-support_passes_on : goal.returns-clause-support_passes_on
unfolding computing
returns-clause-support_passes_on c = refl

pub returns-clause-excise_live_instance : goal.returns-clause-excise_live_instance
unfolding computing
returns-clause-excise_live_instance c = refl

pub returns-clause-counter_never_rests : goal.returns-clause-counter_never_rests
unfolding computing
returns-clause-counter_never_rests c = refl

pub returns-clause-count_with_rejects : goal.returns-clause-count_with_rejects
unfolding computing
returns-clause-count_with_rejects c = refl

pub returns-clause-output_line : goal.returns-clause-output_line
unfolding computing
returns-clause-output_line c = refl

pub returns-clause-generate_three : goal.returns-clause-generate_three
unfolding computing
returns-clause-generate_three c = refl
