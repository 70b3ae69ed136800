use Rattle.input_memory.proofs.MarkLemmas.{fewer_told}
use Rattle.input_memory.proofs.inputs.Inputs.drop_id.Goals as goal

pub invariant_of-self : goal.invariant_of-self
invariant_of-self c = (c.drop_key.ensures.sound, fewer_told c.self.inside.marked _ _ _ c.self.invariant.1 c.drop_key.ensures.triples)
