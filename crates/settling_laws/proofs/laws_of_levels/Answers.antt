use Rattle.settling_laws.proofs.ReachLemmas as laws
use Rattle.settling_laws.proofs.laws_of_levels.Goals as goal

pub returns : goal.returns
returns c = record { walked = laws.reached_is_walked_to }
