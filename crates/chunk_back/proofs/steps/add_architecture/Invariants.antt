use Rattle.std.proofs.Common.{◌≡◌, ◌++◌, map, take}
use Rattle.defs_soar.specs.History.{architecture_step, step_seen}
use Rattle.chunk_back.proofs.steps.add_architecture.Given as goal

abbrev pub invariant-elements : goal.invariant-elements
invariant-elements l = map step_seen l.steps ≡ map step_seen l.initial.steps ++ map architecture_step (take l.element-index l.elements)
