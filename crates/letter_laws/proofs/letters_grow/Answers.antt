use Rattle.letter_laws.proofs.GrowthLaws.{cycles_grow, decisions_grow, given_stay_given, identifiers_grow, settling_gives_none, waves_grow}
use Rattle.letter_laws.proofs.letters_grow.Goals as goal

pub returns-clause-identifiers : goal.returns-clause-identifiers
returns-clause-identifiers c = identifiers_grow

pub returns-clause-settling : goal.returns-clause-settling
returns-clause-settling c = settling_gives_none

pub returns-clause-wave : goal.returns-clause-wave
returns-clause-wave c = waves_grow

pub returns-clause-decision : goal.returns-clause-decision
returns-clause-decision c = decisions_grow

pub returns-clause-cycle : goal.returns-clause-cycle
returns-clause-cycle c = cycles_grow

pub returns-clause-given : goal.returns-clause-given
returns-clause-given c = given_stay_given
