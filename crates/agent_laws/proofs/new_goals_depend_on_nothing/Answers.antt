-- That new goals depend on nothing is shown in lemmas.
use Rattle.agent_laws.proofs.FreshGoals.{doing_without_keeps_goals, learning_keeps_goals}
use Rattle.agent_laws.proofs.NewGoalLaws.{anew_goals_are_given, decision_keeps_goals, first_goals_are_given, input_keeps_goals, inputs_keep_goals, next_goal_depends_on_nothing, output_keeps_goals, waves_keep_goals}
use Rattle.agent_laws.proofs.new_goals_depend_on_nothing.Goals as goal

pub returns-clause-next : goal.returns-clause-next
returns-clause-next c = next_goal_depends_on_nothing

pub returns-clause-first : goal.returns-clause-first
returns-clause-first c = first_goals_are_given

pub returns-clause-anew : goal.returns-clause-anew
returns-clause-anew c = anew_goals_are_given

pub returns-clause-input : goal.returns-clause-input
returns-clause-input c = input_keeps_goals

pub returns-clause-output : goal.returns-clause-output
returns-clause-output c = output_keeps_goals

pub returns-clause-inputs : goal.returns-clause-inputs
returns-clause-inputs c = inputs_keep_goals

pub returns-clause-decision : goal.returns-clause-decision
returns-clause-decision c = decision_keeps_goals

pub returns-clause-learning : goal.returns-clause-learning
returns-clause-learning c = learning_keeps_goals

pub returns-clause-doing_without : goal.returns-clause-doing_without
returns-clause-doing_without c = doing_without_keeps_goals

pub returns-clause-waves : goal.returns-clause-waves
returns-clause-waves c = waves_keep_goals
