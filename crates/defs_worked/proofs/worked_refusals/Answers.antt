use Rattle.std.proofs.Common.{refl}
use Rattle.defs_worked.proofs.Computing.{computing}
use Rattle.defs_worked.proofs.worked_refusals.Goals as goal

pub returns-clause-empty_input : goal.returns-clause-empty_input
unfolding computing
returns-clause-empty_input c = refl

pub returns-clause-float_refused : goal.returns-clause-float_refused
unfolding computing
returns-clause-float_refused c = refl

pub returns-clause-refused_productions : goal.returns-clause-refused_productions
unfolding computing
returns-clause-refused_productions c = refl

pub returns-clause-refused_commands : goal.returns-clause-refused_commands
unfolding computing
returns-clause-refused_commands c = refl

pub returns-clause-refused_syntax_alone : goal.returns-clause-refused_syntax_alone
unfolding computing
returns-clause-refused_syntax_alone c = refl

pub returns-clause-usage_watch_nine : goal.returns-clause-usage_watch_nine
unfolding computing
returns-clause-usage_watch_nine c = refl

pub returns-clause-named_file_missing : goal.returns-clause-named_file_missing
unfolding computing
returns-clause-named_file_missing c = refl

pub returns-clause-refusal_in_named_file : goal.returns-clause-refusal_in_named_file
unfolding computing
returns-clause-refusal_in_named_file c = refl
