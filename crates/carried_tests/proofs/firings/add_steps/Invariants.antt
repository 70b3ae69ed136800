use Rattle.std.proofs.Common.{◌≡◌, ◌++◌, drop, map, flat_map}
use Rattle.carried_tests.specs.Parts.{tests_of_step}
use Rattle.carried_tests.specs.Seen.{carried_seen}
use Rattle.defs_soar.specs.History.{step_seen}
use Rattle.carried_tests.proofs.firings.add_steps.Given as goal

abbrev pub invariant-steps : goal.invariant-steps
invariant-steps l =
    map carried_seen l.tests.items ++ flat_map tests_of_step (map step_seen (drop l.step-index l.steps)) ≡ map carried_seen l.initial.tests.items ++ flat_map tests_of_step (map step_seen l.steps)
