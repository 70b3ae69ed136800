use Rattle.join_parts.proofs.ServedLemmas.{rests}
use Rattle.join_parts.proofs.law.join_rests.Goals as goal

pub returns : goal.returns
returns c = rests
