use Rattle.std.proofs.Common.{◌≡◌, ◌≤◌, ◌++◌, drop, length}
use Rattle.soar_choose.specs.Merging.{merged}
use Rattle.soar_choose.proofs.merging.merged.Given as goal

abbrev pub invariant-symbols : goal.invariant-symbols
invariant-symbols l = record {
  within : l.from ≤ length l.b;
  merged : l.out.items ++ merged l.table (drop l.symbol-index l.a) (drop l.from l.b) ≡ merged l.table l.a l.b;
}
