use Rattle.std.proofs.Common.{◌∙◌, ◌-◌, ap, arith, flat_map, get_or}
use Rattle.chunk_back.specs.Parts.{elements_of, uses_at, with_elements}
use Rattle.chunk_back.proofs.PartLemmas.{elements_before}
use Rattle.chunk_back.proofs.parts.elements_used.Goals as goal

pub numbers-preserved : goal.numbers-preserved
numbers-preserved g c =
    let kept = g.K.Keeps.kept c.args.kept.now in
    c.in_ok-add_of_number.ensures
    ∙ ap (with_elements (flat_map (elements_of c.args.way) (uses_at kept (get_or c.args.numbers.now (c.numbers.at - 1) 0)))) c.numbers.invariant
    ∙ elements_before kept (elements_of c.args.way) c.args.numbers.now c.numbers.at (omega arith) (omega arith)
