use Rattle.std.proofs.Common.{◌≡◌, false}
use Rattle.soar_edge_tests.proofs.cutting.told_by_bytes.Given as goal

abbrev pub invariant-bytes : goal.invariant-bytes
invariant-bytes l = record { fed : l.cutter.fed ≡ l.byte-index; closed : l.cutter.closed ≡ false }
