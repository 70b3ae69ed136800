use Rattle.std.proofs.Common.{◌≡◌, drop}
use Rattle.std.specs.List.{list_any}
use Rattle.defs_soar.specs.ChainIdentifiers.{occurs_in}
use Rattle.chain_identifiers.proofs.grounds.is_in_ground.Given as goal

abbrev pub invariant-grounds : goal.invariant-grounds
invariant-grounds l = list_any (occurs_in l.symbol) (drop l.element-index l.grounds) ≡ list_any (occurs_in l.symbol) l.grounds
