use Rattle.std.proofs.Common.{◌≡◌, ◌++◌, drop, map}
use Rattle.defs_text.specs.Symbols.{symbol_text}
use Rattle.defs_read.specs.PrintingConditions.{spaced}
use Rattle.soar_show.specs.Known.{Knows}
use Rattle.soar_show.proofs.fields.push_symbols.Given as goal

abbrev pub invariant-symbols : goal.invariant-symbols
invariant-symbols l = record {
  known : Knows l.table (drop l.symbol-index l.symbols);
  text : l.out ++ spaced (map (symbol_text l.table) (drop l.symbol-index l.symbols)) ≡ l.initial.out ++ spaced (map (symbol_text l.table) l.symbols);
}
