use Rattle.soar_wm.proofs.LawLemmas.{lawful_remove}
use Rattle.soar_wm.proofs.memory.Memory.remove.Goals as goal

pub invariant_of-self : goal.invariant_of-self
invariant_of-self c = lawful_remove _ _ _ _ _ c.self.invariant c.remove.ensures.rest

pub returns-clause-lawful : goal.returns-clause-lawful
returns-clause-lawful c = lawful_remove _ _ _ _ _ c.self.invariant c.remove.ensures.rest
