use Rattle.std.proofs.Common.{refl}
use Rattle.defs_worked.proofs.Computing.{computing}
use Rattle.defs_worked.proofs.worked_present.Goals as goal

pub returns-clause-made_and_gone : goal.returns-clause-made_and_gone
unfolding computing
returns-clause-made_and_gone c = refl

pub returns-clause-wrong_words : goal.returns-clause-wrong_words
unfolding computing
returns-clause-wrong_words c = refl

pub returns-clause-learning : goal.returns-clause-learning
unfolding computing
returns-clause-learning c = refl

pub returns-clause-one_element_twice : goal.returns-clause-one_element_twice
unfolding computing
returns-clause-one_element_twice c = refl

pub returns-clause-replaced_and_barred : goal.returns-clause-replaced_and_barred
unfolding computing
returns-clause-replaced_and_barred c = refl

pub returns-clause-joined : goal.returns-clause-joined
unfolding computing
returns-clause-joined c = refl

pub returns-clause-forms : goal.returns-clause-forms
unfolding computing
returns-clause-forms c = refl

pub returns-clause-empty_input : goal.returns-clause-empty_input
unfolding computing
returns-clause-empty_input c = refl

pub returns-clause-file_missing : goal.returns-clause-file_missing
unfolding computing
returns-clause-file_missing c = refl

pub returns-clause-quit_in_file : goal.returns-clause-quit_in_file
unfolding computing
returns-clause-quit_in_file c = refl

pub returns-clause-syntax : goal.returns-clause-syntax
unfolding computing
returns-clause-syntax c = refl

pub returns-clause-printed : goal.returns-clause-printed
unfolding computing
returns-clause-printed c = refl

pub returns-clause-same_kind : goal.returns-clause-same_kind
unfolding computing
returns-clause-same_kind c = refl

pub returns-clause-nested : goal.returns-clause-nested
unfolding computing
returns-clause-nested c = refl

pub returns-clause-refused : goal.returns-clause-refused
unfolding computing
returns-clause-refused c = refl

pub returns-clause-labelled : goal.returns-clause-labelled
unfolding computing
returns-clause-labelled c = refl

pub returns-clause-in_match_order : goal.returns-clause-in_match_order
unfolding computing
returns-clause-in_match_order c = refl

pub returns-clause-counted : goal.returns-clause-counted
unfolding computing
returns-clause-counted c = refl

pub returns-clause-shown : goal.returns-clause-shown
unfolding computing
returns-clause-shown c = refl

pub returns-clause-halted : goal.returns-clause-halted
unfolding computing
returns-clause-halted c = refl

pub returns-clause-queued : goal.returns-clause-queued
unfolding computing
returns-clause-queued c = refl

pub returns-clause-conflict : goal.returns-clause-conflict
unfolding computing
returns-clause-conflict c = refl

pub returns-clause-constraint : goal.returns-clause-constraint
unfolding computing
returns-clause-constraint c = refl

pub returns-clause-kept : goal.returns-clause-kept
unfolding computing
returns-clause-kept c = refl

pub returns-clause-tie_renewed : goal.returns-clause-tie_renewed
unfolding computing
returns-clause-tie_renewed c = refl

pub returns-clause-dependency_gone : goal.returns-clause-dependency_gone
unfolding computing
returns-clause-dependency_gone c = refl
