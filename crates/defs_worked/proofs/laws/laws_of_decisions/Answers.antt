use Rattle.defs_worked.proofs.DecisionLemmas as laws
use Rattle.defs_worked.proofs.laws.laws_of_decisions.Goals as goal

pub returns : goal.returns
returns c = record { front = laws.walk_keeps_the_front }
