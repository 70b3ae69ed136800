use Rattle.std.proofs.Common.{◌≡◌, drop}
use Rattle.std.specs.List.{list_any}
use Rattle.defs_soar.specs.ChainIdentifiers.{is_state_use}
use Rattle.chain_identifiers.proofs.steps.is_state_in.Given as goal

abbrev pub invariant-used : goal.invariant-used
invariant-used l = list_any (is_state_use l.symbol) (drop l.one-index l.used) ≡ list_any (is_state_use l.symbol) l.used
