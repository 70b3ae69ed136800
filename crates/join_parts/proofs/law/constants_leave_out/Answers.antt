use Rattle.join_parts.proofs.KnownLemmas.{not_taken}
use Rattle.join_parts.proofs.law.constants_leave_out.Goals as goal

pub returns : goal.returns
returns c = not_taken
