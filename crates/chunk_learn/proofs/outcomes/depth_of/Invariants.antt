use Rattle.std.proofs.Common.{◌≡◌, drop, flat_map, map}
use Rattle.defs_soar.specs.ChainIdentifiers.{firing_in}
use Rattle.defs_soar.specs.History.{step_seen}
use Rattle.chunk_learn.specs.Candidates.{depth_of_last}
use Rattle.chunk_learn.proofs.outcomes.depth_of.Given as goal

abbrev pub invariant-steps : goal.invariant-steps
invariant-steps l = depth_of_last l.depth (flat_map firing_in (map step_seen (drop l.step-index l.steps))) ≡ depth_of_last 0 (flat_map firing_in (map step_seen l.steps))
