use Rattle.removal_laws.proofs.AloneLemmas.{cuts_remove}
use Rattle.removal_laws.proofs.cuts_remove.Goals as goal

pub returns : goal.returns
returns c = cuts_remove
