use Rattle.negation_parts.proofs.KeptLemmas.{kept_is}
use Rattle.negation_parts.proofs.law.negation_is_kept.Goals as goal

pub returns : goal.returns
returns c = kept_is c.negation_keeps.ensures
