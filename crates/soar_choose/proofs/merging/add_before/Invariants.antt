use Rattle.std.proofs.Common.{◌≡◌, ◌++◌, drop}
use Rattle.soar_choose.specs.Merging.{left, moved}
use Rattle.soar_choose.proofs.merging.add_before.Given as goal

abbrev pub invariant-symbols : goal.invariant-symbols
invariant-symbols l = record {
  moved : l.out.items ++ moved l.table l.symbol (drop l.at l.symbols) ≡ l.initial.out.items ++ moved l.table l.symbol (drop l.from l.symbols);
  left : left l.table l.symbol (drop l.at l.symbols) ≡ left l.table l.symbol (drop l.from l.symbols);
}
