use Rattle.std.proofs.Common.{◌≡◌, drop, flat_map, map}
use Rattle.std.specs.List.{list_any}
use Rattle.defs_soar.specs.ChainIdentifiers.{firing_in}
use Rattle.defs_soar.specs.History.{step_seen}
use Rattle.chain_identifiers.specs.Steps.{is_goal_of_firing}
use Rattle.chain_identifiers.proofs.steps.is_goal_in.Given as goal

abbrev pub invariant-steps : goal.invariant-steps
invariant-steps l =
    list_any (is_goal_of_firing l.depth l.symbol) (flat_map firing_in (map step_seen (drop l.step-index l.steps))) ≡ list_any (is_goal_of_firing l.depth l.symbol) (flat_map firing_in (map step_seen l.steps))
