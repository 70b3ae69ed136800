use Rattle.decision_laws.proofs.OneGoalLemmas.{decision_keeps_all, decision_of_one, nothing_is_below}
use Rattle.decision_laws.proofs.WalkLemmas.{walk_follows_outcomes, walk_of_one}
use Rattle.decision_laws.proofs.decisions_follow_outcomes.Goals as goal

pub returns-clause-step : goal.returns-clause-step
returns-clause-step c = walk_follows_outcomes

pub returns-clause-one : goal.returns-clause-one
returns-clause-one c = walk_of_one

pub returns-clause-decision : goal.returns-clause-decision
returns-clause-decision c = decision_of_one

pub returns-clause-nothing_below : goal.returns-clause-nothing_below
returns-clause-nothing_below c = nothing_is_below

pub returns-clause-kept : goal.returns-clause-kept
returns-clause-kept c = decision_keeps_all
