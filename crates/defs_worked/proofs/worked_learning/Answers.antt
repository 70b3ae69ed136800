use Rattle.std.proofs.Common.{refl}
use Rattle.defs_worked.proofs.Computing.{computing}
use Rattle.defs_worked.proofs.worked_learning.Goals as goal

pub returns-clause-learn_from_tie : goal.returns-clause-learn_from_tie
unfolding computing
returns-clause-learn_from_tie c = refl

pub returns-clause-stale_explanation : goal.returns-clause-stale_explanation
unfolding computing
returns-clause-stale_explanation c = refl

pub returns-clause-justified_local_negation : goal.returns-clause-justified_local_negation
unfolding computing
returns-clause-justified_local_negation c = refl

pub returns-clause-learned_without_negation : goal.returns-clause-learned_without_negation
unfolding computing
returns-clause-learned_without_negation c = refl

pub returns-clause-justified_learning_off : goal.returns-clause-justified_learning_off
unfolding computing
returns-clause-justified_learning_off c = refl

pub returns-clause-ungrounded_substate : goal.returns-clause-ungrounded_substate
unfolding computing
returns-clause-ungrounded_substate c = refl

pub returns-clause-ungrounded_before_repair : goal.returns-clause-ungrounded_before_repair
unfolding computing
returns-clause-ungrounded_before_repair c = refl

pub returns-clause-least_maker : goal.returns-clause-least_maker
unfolding computing
returns-clause-least_maker c = refl

pub returns-clause-blocked_explanation : goal.returns-clause-blocked_explanation
unfolding computing
returns-clause-blocked_explanation c = refl

pub returns-clause-goal_among_results : goal.returns-clause-goal_among_results
unfolding computing
returns-clause-goal_among_results c = refl

pub returns-clause-result_without_learning : goal.returns-clause-result_without_learning
unfolding computing
returns-clause-result_without_learning c = refl

pub returns-clause-result_with_learning : goal.returns-clause-result_with_learning
unfolding computing
returns-clause-result_with_learning c = refl
