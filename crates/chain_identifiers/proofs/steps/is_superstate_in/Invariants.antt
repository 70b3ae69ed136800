use Rattle.std.proofs.Common.{◌≡◌, drop, map}
use Rattle.std.specs.List.{list_any}
use Rattle.defs_soar.specs.ChainIdentifiers.{names_superstate}
use Rattle.defs_soar.specs.History.{step_seen}
use Rattle.chain_identifiers.proofs.steps.is_superstate_in.Given as goal

abbrev pub invariant-steps : goal.invariant-steps
invariant-steps l = list_any (names_superstate l.symbol) (map step_seen (drop l.step-index l.steps)) ≡ list_any (names_superstate l.symbol) (map step_seen l.steps)
