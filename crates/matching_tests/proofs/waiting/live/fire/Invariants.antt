use Rattle.std.proofs.Common.{◌≡◌}
use Rattle.matching_tests.proofs.waiting.live.fire.Given as goal

abbrev pub invariant-unfired : goal.invariant-unfired
invariant-unfired l = l.fired.live.told ≡ l.initial.fired.live.told
