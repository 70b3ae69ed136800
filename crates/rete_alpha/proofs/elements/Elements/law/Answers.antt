use Rattle.std.proofs.Common.{subst}
use Rattle.soar_wm.specs.WorkingMemory.{IsRising}
use Rattle.rete_alpha.proofs.OrderLemmas.{all_risen}
use Rattle.rete_alpha.proofs.elements.Elements.law.Goals as goal

pub returns : goal.returns
returns c = subst IsRising c.self.view_is (all_risen c.self.inside.by_tag.entries c.self.invariant)
