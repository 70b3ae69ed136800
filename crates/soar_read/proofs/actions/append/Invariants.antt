use Rattle.std.proofs.Common.{◌≡◌, ◌++◌, map}
use Rattle.soar_rule.specs.Productions.{action_seen}
use Rattle.soar_read.proofs.actions.append.Given as goal

abbrev pub invariant-more : goal.invariant-more
invariant-more l = map action_seen l.out ≡ map action_seen l.initial.out ++ map action_seen l.yielded
