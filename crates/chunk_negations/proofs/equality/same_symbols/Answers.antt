use Rattle.chunk_negations.proofs.EqualityLemmas.{same_as_listed}
use Rattle.chunk_negations.proofs.equality.same_symbols.Goals as goal

pub returns : goal.returns
returns c = same_as_listed c.args.symbols.now c.args.others.now c.same.result c.same.ensures
