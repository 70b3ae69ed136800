use Rattle.std.proofs.Common.{Some, None, sym, ◌∙◌}
use Rattle.soar_decide.proofs.TagLemmas.{marked_tag_is}
use Rattle.soar_decide.proofs.items.marked_tag.Goals as goal

pub returns-in-Some : goal.returns-in-Some
returns-in-Some c = marked_tag_is c.args.memory.now.elements c.args.goal c.args.operator (Some c.in-Some.tag) (sym c.in-Some.is ∙ c.find.ensures)

pub returns-in-None : goal.returns-in-None
returns-in-None c = marked_tag_is c.args.memory.now.elements c.args.goal c.args.operator None (sym c.in-None.is ∙ c.find.ensures)
