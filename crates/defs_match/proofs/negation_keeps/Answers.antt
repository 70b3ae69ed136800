use Rattle.defs_match.proofs.RowLemmas as laws
use Rattle.defs_match.proofs.negation_keeps.Goals as goal

pub returns : goal.returns
returns c = laws.negation_keeps
