use Rattle.join_parts.proofs.ServedLemmas.{join_served}
use Rattle.join_parts.proofs.law.join_serves.Goals as goal

pub returns : goal.returns
returns c = join_served
