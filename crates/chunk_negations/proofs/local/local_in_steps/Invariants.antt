use Rattle.std.proofs.Common.{◌≡◌, drop, flat_map, map}
use Rattle.defs_soar.specs.ChainIdentifiers.{firing_in}
use Rattle.defs_soar.specs.History.{chain_seen, step_seen}
use Rattle.defs_soar.specs.Negations.{has_local_negation}
use Rattle.defs_soar.specs.Outcome.{first_firing}
use Rattle.chunk_negations.proofs.local.local_in_steps.Given as goal

abbrev pub invariant-steps : goal.invariant-steps
invariant-steps l =
    first_firing (has_local_negation (chain_seen l.told.chain.now) l.told.depth) (flat_map firing_in (map step_seen (drop l.step-index l.steps)))
    ≡ first_firing (has_local_negation (chain_seen l.told.chain.now) l.told.depth) (flat_map firing_in (map step_seen l.steps))
