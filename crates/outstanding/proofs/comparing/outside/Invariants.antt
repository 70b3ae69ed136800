use Rattle.std.proofs.Common.{◌≡◌, ◌++◌, filter, not}
use Rattle.outstanding.specs.Keys.{has_key}
use Rattle.outstanding.proofs.comparing.outside.Given as goal

abbrev pub invariant-live : goal.invariant-live
invariant-live l = l.outside ++ filter (λ f. not (has_key l.matched f.instance)) l.firing-iterator ≡ filter (λ f. not (has_key l.matched f.instance)) l.live.list
