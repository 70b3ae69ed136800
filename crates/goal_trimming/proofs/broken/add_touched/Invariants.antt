use Rattle.std.proofs.Common.{◌≡◌, ◌++◌, drop}
use Rattle.goal_trimming.specs.Lost.{lost_of}
use Rattle.goal_trimming.proofs.broken.add_touched.Given as goal

abbrev pub invariant-touched : goal.invariant-touched
invariant-touched l =
    l.lost ++ lost_of l.memory.elements l.kept.triples (drop l.triple-index l.touched)
    ≡ l.initial.lost ++ lost_of l.memory.elements l.kept.triples l.touched
