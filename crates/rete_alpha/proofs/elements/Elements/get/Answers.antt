use Rattle.std.proofs.Common.{ap, ◌∙◌}
use Rattle.soar_wm.specs.WorkingMemory.{element_of}
use Rattle.rete_alpha.specs.Entries.{in_order}
use Rattle.rete_alpha.proofs.ElementLemmas.{found}
use Rattle.rete_alpha.proofs.OrderLemmas.{found_in_order}
use Rattle.rete_alpha.proofs.elements.Elements.get.Goals as goal

pub returns : goal.returns
returns c =
    c.unpacked.ensures ∙ c.get.ensures.value ∙ found_in_order c.self.inside.by_tag.entries c.args.tag
    ∙ found (in_order c.self.inside.by_tag.entries) c.args.tag c.self.invariant ∙ ap (element_of c.args.tag) c.self.view_is
