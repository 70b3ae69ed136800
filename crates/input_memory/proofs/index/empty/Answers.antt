use Rattle.input_memory.proofs.IndexLemmas.{nothing}
use Rattle.input_memory.proofs.index.empty.Goals as goal

pub returns : goal.returns
returns c = nothing (record { places = c.new.result }) c.new.ensures.empty
