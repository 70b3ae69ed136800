use Rattle.std.proofs.Common.{◌≡◌, drop}
use Rattle.defs_soar.specs.Results.{with_each_symbol}
use Rattle.chunk_grounds.proofs.leading.add_each.Given as goal

abbrev pub invariant-symbols : goal.invariant-symbols
invariant-symbols l = with_each_symbol l.known (drop l.symbol-index l.symbols) ≡ with_each_symbol l.initial.known l.symbols
