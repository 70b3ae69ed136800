use Rattle.input_memory.proofs.StoreLemmas.{gone}
use Rattle.input_memory.proofs.store.Store.take.Goals as goal

pub returns-in-Some-clause-sound : goal.returns-in-Some-clause-sound
returns-in-Some-clause-sound c = gone _ _ _ _ _ c.args.number c.in-Some.triple c.requires c.in-Some.ensures.value c.in-Some.ensures.entries c.in-Some.ensures.updates.0 c.forget.ensures
