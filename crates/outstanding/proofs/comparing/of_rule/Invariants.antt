use Rattle.std.proofs.Common.{◌≡◌}
use Rattle.match_changes.specs.Told.{of_rule}
use Rattle.outstanding.proofs.comparing.of_rule.Given as goal

abbrev pub invariant-instances : goal.invariant-instances
invariant-instances l = l.found ≡ of_rule l.number l.yielded
