-- That what is told stays known is shown in lemmas.
use Rattle.program_laws.proofs.KnownLaws.{learning_is_known}
use Rattle.program_laws.proofs.learning_is_known.Goals as goal

pub returns : goal.returns
returns c = record { known = learning_is_known }
