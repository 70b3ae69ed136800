use Rattle.std.proofs.Common.{refl}
use Rattle.defs_worked.proofs.Computing.{computing}
use Rattle.defs_worked.proofs.worked_operators.Goals as goal

pub returns-clause-hello_world : goal.returns-clause-hello_world
unfolding computing
returns-clause-hello_world c = refl

pub returns-clause-hello_world_full_trace : goal.returns-clause-hello_world_full_trace
unfolding computing
returns-clause-hello_world_full_trace c = refl

pub returns-clause-run_after_halt : goal.returns-clause-run_after_halt
unfolding computing
returns-clause-run_after_halt c = refl

pub returns-clause-conflict_of_two : goal.returns-clause-conflict_of_two
unfolding computing
returns-clause-conflict_of_two c = refl

pub returns-clause-conflict_with_a_third : goal.returns-clause-conflict_with_a_third
unfolding computing
returns-clause-conflict_with_a_third c = refl

pub returns-clause-constraint_failure : goal.returns-clause-constraint_failure
unfolding computing
returns-clause-constraint_failure c = refl

pub returns-clause-rejected_beats_none : goal.returns-clause-rejected_beats_none
unfolding computing
returns-clause-rejected_beats_none c = refl

pub returns-clause-kept_operator : goal.returns-clause-kept_operator
unfolding computing
returns-clause-kept_operator c = refl

pub returns-clause-softmax_word_nine : goal.returns-clause-softmax_word_nine
unfolding computing
returns-clause-softmax_word_nine c = refl

pub returns-clause-softmax_word_zero : goal.returns-clause-softmax_word_zero
unfolding computing
returns-clause-softmax_word_zero c = refl

pub returns-clause-softmax_word_ten : goal.returns-clause-softmax_word_ten
unfolding computing
returns-clause-softmax_word_ten c = refl

pub returns-clause-softmax_without_word : goal.returns-clause-softmax_without_word
unfolding computing
returns-clause-softmax_without_word c = refl

pub returns-clause-tie_items_by_input : goal.returns-clause-tie_items_by_input
unfolding computing
returns-clause-tie_items_by_input c = refl
