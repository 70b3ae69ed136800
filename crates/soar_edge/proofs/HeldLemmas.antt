-- What a cutter keeps, past some bytes of those that are not cut yet.
use Rattle.std.proofs.Common.{◌≡◌, ℕ, ◌+◌, ◌<◌, ◌≤◌, ◌^◌, List, length, take, drop, sym, ap, subst, ◌∙◌, arith, length-drop}
use Rattle.std.proofs.lemmas.List.{drop-drop, length-take-le}
use Rattle.soar_edge.specs.Scanning.{IsScan, newlines}
use Rattle.soar_edge.specs.Holding.{IsHeld}
use Rattle.soar_edge.specs.declared.scan.Scan.{Scan}
use Rattle.soar_edge.proofs.SkipLemmas.{newlines-le}

-- how many are left
left_size : (bytes : List ℕ) (start : ℕ) (front : List ℕ) → start ≤ length bytes → drop start bytes ≡ front → length front + start ≡ length bytes
left_size bytes start front within left = omega (arith, length-drop start bytes, ap length left)

-- no more lines than bytes
lines_left : (bytes : List ℕ) (start : ℕ) (scan : Scan) (line fed : ℕ) (front : List ℕ) (size : ℕ) → IsHeld bytes start scan line fed → drop start bytes ≡ front → size ≤ length front
    → line + newlines (take size front) + length bytes ≤ fed + start + size + 1
lines_left bytes start scan line fed front size held left within = omega (arith, held.lines, newlines-le (take size front), length-take-le size front within)

pub line_fits : (bytes : List ℕ) (start : ℕ) (scan : Scan) (line fed : ℕ) (front : List ℕ) (size : ℕ) → IsHeld bytes start scan line fed → drop start bytes ≡ front → size ≤ length front
    → line + newlines (take size front) < 2 ^ 64
line_fits bytes start scan line fed front size held left within =
    omega (arith, held.small, left_size bytes start front held.within left, lines_left bytes start scan line fed front size held left within)

pub is_held_past : (bytes : List ℕ) (start : ℕ) (scan : Scan) (line fed : ℕ) (front : List ℕ) (size : ℕ) (next : Scan) → IsHeld bytes start scan line fed → drop start bytes ≡ front → size ≤ length front
    → IsScan (drop size front) next → IsHeld bytes (start + size) next (line + newlines (take size front)) fed
is_held_past bytes start scan line fed front size next held left within scanned = record {
  within = omega (arith, left_size bytes start front held.within left);
  scanned = subst (λ rest. IsScan rest next) (ap (drop size) (sym left) ∙ drop-drop size start bytes) scanned;
  lines = omega (arith, lines_left bytes start scan line fed front size held left within);
  small = held.small;
}
