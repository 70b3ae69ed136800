use Rattle.std.proofs.Common.{◌≡◌, ◌++◌, [], drop, flat_map, map}
use Rattle.defs_soar.specs.Explanation.{firing_of, firing_steps}
use Rattle.defs_soar.specs.History.{step_seen}
use Rattle.chunk_back.proofs.steps.add_firings.Given as goal

abbrev pub invariant-numbers : goal.invariant-numbers
invariant-numbers g l =
    map step_seen l.steps ++ firing_steps l.seen (flat_map (firing_of (g.K.Keeps.kept l.kept)) (drop l.number-index l.numbers))
    ≡ map step_seen l.initial.steps ++ firing_steps [] (flat_map (firing_of (g.K.Keeps.kept l.kept)) l.numbers)
