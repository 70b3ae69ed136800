-- How what goals depend on grows is shown in lemmas.
use Rattle.agent_laws.proofs.DependenceLaws.{dependencies_grow, dependencies_in_turn, tags_by_record, waves_add_dependencies}
use Rattle.agent_laws.proofs.GoalDependence.{goals_depend_on_more, goals_left_depend_as_before, new_goals_depend_on_nothing}
use Rattle.agent_laws.proofs.dependencies_grow.Goals as goal

pub returns-clause-grow : goal.returns-clause-grow
returns-clause-grow c = dependencies_grow

pub returns-clause-turns : goal.returns-clause-turns
returns-clause-turns c = dependencies_in_turn

pub returns-clause-kept : goal.returns-clause-kept
returns-clause-kept c = tags_by_record

pub returns-clause-waves : goal.returns-clause-waves
returns-clause-waves c = waves_add_dependencies

pub returns-clause-goals : goal.returns-clause-goals
returns-clause-goals c = goals_depend_on_more

pub returns-clause-left : goal.returns-clause-left
returns-clause-left c = goals_left_depend_as_before

pub returns-clause-nothing : goal.returns-clause-nothing
returns-clause-nothing c = new_goals_depend_on_nothing
