use Rattle.removal_laws.proofs.AloneLemmas.{removals_alone}
use Rattle.removal_laws.proofs.removals_alone.Goals as goal

pub returns : goal.returns
returns c = removals_alone
