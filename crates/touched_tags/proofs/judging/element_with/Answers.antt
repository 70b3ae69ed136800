use Rattle.std.proofs.Common.{◌∙◌, sym}
use Rattle.touched_tags.proofs.FirstLemmas.{first_by_tag, first_missing}
use Rattle.touched_tags.proofs.judging.element_with.Goals as goal

pub returns-in-Some : goal.returns-in-Some
returns-in-Some c = c.get.ensures.element ∙ first_by_tag c.args.triple c.args.memory.now.elements c.in-Some.tag c.get.ensures.lawful.rising (sym c.in-Some.ensures)

pub returns-in-None : goal.returns-in-None
returns-in-None c = sym (first_missing c.args.triple c.args.memory.now.elements (sym c.in-None.ensures))
