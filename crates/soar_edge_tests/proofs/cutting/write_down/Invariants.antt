use Rattle.std.proofs.Common.{◌≡◌}
use Rattle.soar_edge_tests.proofs.cutting.write_down.Given as goal

abbrev pub invariant-commands : goal.invariant-commands
invariant-commands l = record { fed : l.cutter.fed ≡ l.initial.cutter.fed; closed : l.cutter.closed ≡ l.initial.cutter.closed }
