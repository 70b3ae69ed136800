use Rattle.std.proofs.Common.{◌≡◌, ◌++◌, drop, filter}
use Rattle.defs_soar.specs.Trimming.{is_lost}
use Rattle.goal_trimming.proofs.broken.add_doubted.Given as goal

abbrev pub invariant-doubted : goal.invariant-doubted
invariant-doubted l =
    l.lost ++ filter (is_lost l.memory.elements l.kept.triples) (drop l.tag-index l.doubted)
    ≡ l.initial.lost ++ filter (is_lost l.memory.elements l.kept.triples) l.doubted
