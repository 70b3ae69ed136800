use Rattle.std.proofs.Common.{◌∙◌, sym}
use Rattle.touched_tags.proofs.FirstLemmas.{comes_with}
use Rattle.touched_tags.proofs.judging.verdict_of_triple.Goals as goal

pub returns-in-Some-clause-comes : goal.returns-in-Some-clause-comes
returns-in-Some-clause-comes g c =
    c.verdict_of_element.ensures.comes
    ∙ sym (comes_with c.args.goals.now (g.K.KeptSet.triples c.args.kept.now) c.args.memory.now.elements c.args.triple c.in-Some.element (sym c.in-Some.ensures))
