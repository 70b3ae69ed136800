use Rattle.std.proofs.Common.{◌≡◌, drop, flat_map, map}
use Rattle.soar_rule.specs.Conditions.{condition}
use Rattle.defs_soar.specs.ChainIdentifiers.{firing_in}
use Rattle.defs_soar.specs.History.{chain_seen, step_seen}
use Rattle.defs_soar.specs.Negations.{superstate_negations, without_repeats}
use Rattle.chunk_negations.proofs.taking.take_of_steps.Given as goal

abbrev pub invariant-steps : goal.invariant-steps
invariant-steps l =
    without_repeats (map condition l.taken) (flat_map (superstate_negations (chain_seen l.told.chain.now) l.told.depth) (flat_map firing_in (map step_seen (drop l.step-index l.steps))))
    ≡ without_repeats (map condition l.initial.taken) (flat_map (superstate_negations (chain_seen l.told.chain.now) l.told.depth) (flat_map firing_in (map step_seen l.steps)))
