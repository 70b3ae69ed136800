-- That explanations stay through runs is shown in lemmas.
use Rattle.explanation_laws.proofs.MomentLaws.{cycles_last, explanations_last, learned_lasts, phases_last, runs_last}
use Rattle.explanation_laws.proofs.runs_keep_explanations.Goals as goal

pub returns-clause-phases : goal.returns-clause-phases
returns-clause-phases c = phases_last

pub returns-clause-cycles : goal.returns-clause-cycles
returns-clause-cycles c = cycles_last

pub returns-clause-runs : goal.returns-clause-runs
returns-clause-runs c = runs_last

pub returns-clause-kept : goal.returns-clause-kept
returns-clause-kept c = explanations_last

pub returns-clause-learned : goal.returns-clause-learned
returns-clause-learned c = learned_lasts
