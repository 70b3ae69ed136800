use Rattle.std.proofs.Common.{◌∙◌, ◌-◌, ap, arith, flat_map, get_or}
use Rattle.defs_soar.specs.Explanation.{item_of}
use Rattle.chunk_back.specs.Parts.{uses_at, with_namings}
use Rattle.chunk_back.proofs.PartLemmas.{namings_before}
use Rattle.chunk_back.proofs.named.items_used.Goals as goal

pub numbers-preserved : goal.numbers-preserved
numbers-preserved g c =
    let kept = g.K.Keeps.kept c.args.kept.now in
    c.in_ok-add_items_of_number.ensures
    ∙ ap (with_namings (flat_map item_of (uses_at kept (get_or c.args.numbers.now (c.numbers.at - 1) 0)))) c.numbers.invariant
    ∙ namings_before kept item_of c.args.numbers.now c.numbers.at (omega arith) (omega arith)
