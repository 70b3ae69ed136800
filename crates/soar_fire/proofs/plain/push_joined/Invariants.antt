use Rattle.std.proofs.Common.{◌≡◌, ◌++◌, drop}
use Rattle.defs_soar.specs.Functions.{joined}
use Rattle.soar_fire.specs.Known.{Knows}
use Rattle.soar_fire.proofs.plain.push_joined.Given as goal

abbrev pub invariant-symbols : goal.invariant-symbols
invariant-symbols l = record {
  known : Knows l.table (drop l.symbol-index l.symbols);
  text : l.out ++ joined l.table (drop l.symbol-index l.symbols) ≡ l.initial.out ++ joined l.table l.symbols;
}
