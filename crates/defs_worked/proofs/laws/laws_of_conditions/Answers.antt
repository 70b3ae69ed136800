use Rattle.defs_worked.proofs.ConditionLemmas as laws
use Rattle.defs_worked.proofs.laws.laws_of_conditions.Goals as goal

pub returns-clause-reached : goal.returns-clause-reached
returns-clause-reached c = laws.taken_are_reached

pub returns-clause-grounds : goal.returns-clause-grounds
returns-clause-grounds c = laws.taken_are_grounds
