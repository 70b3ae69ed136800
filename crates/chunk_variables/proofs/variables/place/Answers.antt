use Rattle.std.proofs.Common.{sym, ◌∙◌}
use Rattle.chunk_variables.proofs.VariableLemmas.{place_of_found, place_of_missing}
use Rattle.chunk_variables.proofs.variables.place.Goals as goal

pub returns-in-Some-clause-place : goal.returns-in-Some-clause-place
returns-in-Some-clause-place c = place_of_found c.args.item c.args.items.now.keys c.in-Some.at (sym c.in-Some.is ∙ c.get_index_of.ensures.index)

pub returns-in-None-clause-place : goal.returns-in-None-clause-place
returns-in-None-clause-place c = c.len.ensures.len ∙ place_of_missing c.args.item c.args.items.now.keys (sym c.in-None.is ∙ c.get_index_of.ensures.index)
