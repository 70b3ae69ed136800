use Rattle.std.proofs.Common.{◌≡◌, drop}
use Rattle.defs_soar.specs.Sorted.{has_symbol}
use Rattle.touched_tags.proofs.changed_goals.has_symbol.Given as goal

abbrev pub invariant-symbols : goal.invariant-symbols
invariant-symbols l = has_symbol (drop l.other-index l.symbols) l.symbol ≡ has_symbol l.symbols l.symbol
