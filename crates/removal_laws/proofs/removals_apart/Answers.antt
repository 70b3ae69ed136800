use Rattle.removal_laws.proofs.ApartLemmas.{removals_apart}
use Rattle.removal_laws.proofs.removals_apart.Goals as goal

pub returns : goal.returns
returns c = removals_apart
