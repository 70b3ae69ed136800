use Rattle.std.proofs.Common.{◌≡◌, ◌+◌, ◌*◌, drop, pos, neg_ℤ, ◌≤ℤ◌}
use Rattle.defs_soar.specs.Draw.{first_above}
use Rattle.soar_choose.specs.Rows.{AreSumsWithin}
use Rattle.soar_choose.proofs.drawing.first_above.Given as goal

abbrev pub invariant-sums : goal.invariant-sums
invariant-sums l = record {
  whole : l.at + first_above l.number l.so_far (drop l.at l.left) ≡ first_above l.number (pos 0) l.left;
  rest : AreSumsWithin (drop l.at l.left);
  low : neg_ℤ (pos (l.at * 1000000000000000)) ≤ℤ l.so_far;
  high : l.so_far ≤ℤ pos (l.at * 1000000000000000);
}
