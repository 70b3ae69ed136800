-- That agents keep explanations is shown in lemmas.
use Rattle.explanation_laws.proofs.CycleStays.{cycles_stay, decisions_stay, learned_is_found, learning_stays, waves_stay, whole_runs_stay, work_stays}
use Rattle.explanation_laws.proofs.agents_keep_explanations.Goals as goal

pub returns-clause-learning : goal.returns-clause-learning
returns-clause-learning c = learning_stays

pub returns-clause-found : goal.returns-clause-found
returns-clause-found c = learned_is_found

pub returns-clause-work : goal.returns-clause-work
returns-clause-work c = work_stays

pub returns-clause-waves : goal.returns-clause-waves
returns-clause-waves c = waves_stay

pub returns-clause-decisions : goal.returns-clause-decisions
returns-clause-decisions c = decisions_stay

pub returns-clause-cycles : goal.returns-clause-cycles
returns-clause-cycles c = cycles_stay

pub returns-clause-runs : goal.returns-clause-runs
returns-clause-runs c = whole_runs_stay
