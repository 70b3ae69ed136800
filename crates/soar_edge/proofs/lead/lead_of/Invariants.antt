use Rattle.std.proofs.Common.{◌≤◌, ◌-◌, length}
use Rattle.soar_edge.specs.Leading.{Skips}
use Rattle.soar_edge.proofs.lead.lead_of.Given as goal

abbrev pub invariant-bytes : goal.invariant-bytes
invariant-bytes l = record { within : l.size ≤ length l.bytes; skips : Skips l.bytes l.size }

abbrev pub decreases-bytes : goal.decreases-bytes
decreases-bytes l = length l.bytes - l.size
