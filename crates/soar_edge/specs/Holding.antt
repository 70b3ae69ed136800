-- What a cutter keeps: the bytes, where those begin that are not cut yet, and how far the command there was scanned.
use Rattle.std.specs.Prelude.{ℕ, ◌+◌, ◌<◌, ◌≤◌, ◌^◌, List, length, take, drop}
use Rattle.soar_edge.specs.Scanning.{IsScan, newlines}
use Rattle.soar_edge.specs.Cuts.{Uncut}
use Rattle.soar_edge.specs.declared.scan.Scan.{Scan}

-- no more lines are counted than bytes were passed
pub record IsHeld (bytes : List ℕ) (start : ℕ) (scan : Scan) (line fed : ℕ) : Type 0 where
  pub within : start ≤ length bytes
  pub scanned : IsScan (drop start bytes) scan
  pub lines : line + length bytes ≤ fed + start + 1
  pub small : fed < 2 ^ 63

-- past so many bytes
abbrev pub past : Uncut → ℕ → Uncut
past c size = record c { bytes = drop size c.bytes; line = c.line + newlines (take size c.bytes) }
