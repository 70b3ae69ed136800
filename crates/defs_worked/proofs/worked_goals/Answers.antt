use Rattle.std.proofs.Common.{refl}
use Rattle.defs_worked.proofs.Computing.{computing}
use Rattle.defs_worked.proofs.worked_goals.Goals as goal

pub returns-clause-dependency_gone : goal.returns-clause-dependency_gone
unfolding computing
returns-clause-dependency_gone c = refl

pub returns-clause-dependency_gone_brief : goal.returns-clause-dependency_gone_brief
unfolding computing
returns-clause-dependency_gone_brief c = refl

pub returns-clause-gone_from_one_depth : goal.returns-clause-gone_from_one_depth
unfolding computing
returns-clause-gone_from_one_depth c = refl
