use Rattle.settling_laws.proofs.SettlingLemmas as laws
use Rattle.settling_laws.proofs.laws_of_settling.Goals as goal

pub returns-clause-stays : goal.returns-clause-stays
returns-clause-stays c = laws.settled_stays

pub returns-clause-within : goal.returns-clause-within
returns-clause-within c = laws.settled_is_within
