use Rattle.std.proofs.Common.{◌≡◌, drop, flat_map, map}
use Rattle.defs_soar.specs.ChainIdentifiers.{firing_in}
use Rattle.defs_soar.specs.History.{step_seen}
use Rattle.defs_soar.specs.Outcome.{first_firing, uses_quiescence}
use Rattle.chunk_learn.proofs.causes.first_quiescence.Given as goal

abbrev pub invariant-steps : goal.invariant-steps
invariant-steps l = first_firing uses_quiescence (flat_map firing_in (map step_seen (drop l.step-index l.steps))) ≡ first_firing uses_quiescence (flat_map firing_in (map step_seen l.steps))
