use Rattle.std.proofs.Common.{◌≡◌, filter, not}
use Rattle.outstanding.specs.Keys.{has_key}
use Rattle.outstanding.proofs.comparing.without.Given as goal

abbrev pub invariant-instances : goal.invariant-instances
invariant-instances l = l.without ≡ filter (λ i. not (has_key l.fired i)) l.yielded
