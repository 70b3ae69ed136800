use Rattle.std.proofs.Common.{◌∙◌}
use Rattle.goal_trimming.proofs.LostLemmas.{found_is}
use Rattle.goal_trimming.proofs.broken.highest_broken.Goals as goal

pub returns : goal.returns
returns c =
    c.highest_with.ensures
    ∙ found_is c.args.memory.now c.args.kept.now.triples c.args.depends.now c.args.doubted.now c.args.touched.now c.as_slice.result.now c.no_triple_twice.ensures
    (c.as_slice.ensures ∙ c.in_ok-lost.ensures) c.requires.looked
