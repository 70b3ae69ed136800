use Rattle.defs_match.proofs.RowLemmas as laws
use Rattle.defs_match.proofs.rows_differ.Goals as goal

pub returns : goal.returns
returns c = laws.rows_differ
