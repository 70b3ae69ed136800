use Rattle.std.proofs.Common.{◌≡◌, ◌++◌, take, drop}
use Rattle.soar_rule.specs.Symbols.{AreKnown}
use Rattle.defs_soar.specs.Sorted.{with_symbol}
use Rattle.condition_order.proofs.states.place.Given as goal

abbrev pub invariant-symbols : goal.invariant-symbols
invariant-symbols l = record {
  known : AreKnown l.table (drop l.at l.symbols);
  whole : with_symbol l.table l.symbols l.symbol ≡ take l.at l.symbols ++ with_symbol l.table (drop l.at l.symbols) l.symbol;
}
