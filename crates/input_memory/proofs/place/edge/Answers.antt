use Rattle.input_memory.proofs.PlaceLemmas.{number_told}
use Rattle.input_memory.proofs.place.edge.Goals as goal

pub returns-clause-told : goal.returns-clause-told
returns-clause-told c = number_told c.args.id c.number_of.result c.number_of.ensures.number c.number_of.ensures.symbol
