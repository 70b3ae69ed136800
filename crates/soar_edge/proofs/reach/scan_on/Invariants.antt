use Rattle.std.proofs.Common.{length, ◌-◌}
use Rattle.soar_edge.specs.Scanning.{IsScan}
use Rattle.soar_edge.proofs.reach.scan_on.Given as goal

abbrev pub invariant-bytes : goal.invariant-bytes
invariant-bytes l = IsScan l.front l.scan

abbrev pub decreases-bytes : goal.decreases-bytes
decreases-bytes l = length l.front - l.scan.size
