use Rattle.std.proofs.Common.{◌≡◌, ◌++◌, drop}
use Rattle.defs_match.specs.Conflict.{paired}
use Rattle.chain_identifiers.proofs.bindings.paired.Given as goal

abbrev pub invariant-variables : goal.invariant-variables
invariant-variables l = l.bindings.items ++ paired (drop l.variable-index l.variables) l.left ≡ paired l.variables l.symbols
