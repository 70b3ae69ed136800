-- That rules join is shown in lemmas.
use Rattle.program_laws.proofs.MakerLaws.{makers_are_before}
use Rattle.program_laws.proofs.TeachingLaws.{learning_teaches}
use Rattle.program_laws.proofs.rules_join.Goals as goal

pub returns-clause-teaches : goal.returns-clause-teaches
returns-clause-teaches c = learning_teaches

pub returns-clause-makers : goal.returns-clause-makers
returns-clause-makers c = makers_are_before
