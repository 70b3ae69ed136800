use Rattle.std.proofs.Common.{◌≡◌, ◌*◌, drop, pos, neg_ℤ, ◌+ℤ◌, ◌≤ℤ◌}
use Rattle.defs_soar.specs.Draw.{total_of}
use Rattle.soar_choose.specs.Rows.{AreSumsWithin}
use Rattle.soar_choose.proofs.drawing.total.Given as goal

abbrev pub invariant-sums : goal.invariant-sums
invariant-sums l = record {
  whole : l.total +ℤ total_of (drop l.s-index l.left) ≡ total_of l.left;
  rest : AreSumsWithin (drop l.s-index l.left);
  low : neg_ℤ (pos (l.s-index * 1000000000000000)) ≤ℤ l.total;
  high : l.total ≤ℤ pos (l.s-index * 1000000000000000);
}
