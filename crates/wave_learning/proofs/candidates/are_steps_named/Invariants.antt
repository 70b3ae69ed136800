use Rattle.std.proofs.Common.{◌≡◌, drop, map}
use Rattle.std.specs.List.{list_all}
use Rattle.defs_soar.specs.History.{step_seen}
use Rattle.wave_learning.specs.Lawful.{is_step_named}
use Rattle.wave_learning.proofs.candidates.are_steps_named.Given as goal

abbrev pub invariant-steps : goal.invariant-steps
invariant-steps l = list_all (is_step_named l.table) (map step_seen (drop l.step-index l.steps)) ≡ list_all (is_step_named l.table) (map step_seen l.steps)
