use Rattle.std.proofs.Common.{false, ap}
use Rattle.std.specs.Map.{values_of}
use Rattle.input_memory.proofs.MarkLemmas.{nothing_kept}
use Rattle.input_memory.proofs.inputs.Inputs.new.Goals as goal

pub invariant_of-result : goal.invariant_of-result
invariant_of-result c = (c.new.ensures.sound, nothing_kept false _ (ap values_of c.new.ensures.triples))
