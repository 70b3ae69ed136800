use Rattle.std.proofs.Common.{◌≡◌, drop}
use Rattle.defs_match.specs.Testing.{symbol_of}
use Rattle.chain_identifiers.proofs.bindings.symbol_of.Given as goal

abbrev pub invariant-bindings : goal.invariant-bindings
invariant-bindings l = symbol_of l.variable (drop l.binding-index l.bindings) ≡ symbol_of l.variable l.bindings
