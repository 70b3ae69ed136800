use Rattle.std.proofs.Common.{◌≡◌, ◌++◌}
use Rattle.wave_tests.proofs.pending.parts.listed.Given as goal

abbrev pub invariant-rules : goal.invariant-rules
invariant-rules l = l.listed ++ l.rule-iterator ≡ l.rules
