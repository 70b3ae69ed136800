use Rattle.std.proofs.Common.{refl}
use Rattle.defs_worked.proofs.Computing.{computing}
use Rattle.defs_worked.proofs.worked_matching.Goals as goal

pub returns-clause-one_element_two_conditions : goal.returns-clause-one_element_two_conditions
unfolding computing
returns-clause-one_element_two_conditions c = refl

pub returns-clause-same_kind_and_different : goal.returns-clause-same_kind_and_different
unfolding computing
returns-clause-same_kind_and_different c = refl

pub returns-clause-nested_negation : goal.returns-clause-nested_negation
unfolding computing
returns-clause-nested_negation c = refl

pub returns-clause-blocker_replaced : goal.returns-clause-blocker_replaced
unfolding computing
returns-clause-blocker_replaced c = refl

pub returns-clause-read_and_print : goal.returns-clause-read_and_print
unfolding computing
returns-clause-read_and_print c = refl
