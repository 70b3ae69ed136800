use Rattle.negation_parts.proofs.NegationLemmas.{let_through_changes}
use Rattle.negation_parts.proofs.law.negation_serves.Goals as goal

pub returns : goal.returns
returns c = let_through_changes
