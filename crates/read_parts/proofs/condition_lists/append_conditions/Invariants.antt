use Rattle.std.proofs.Common.{◌≡◌, ◌++◌, map}
use Rattle.soar_rule.specs.Conditions.{condition}
use Rattle.read_parts.proofs.condition_lists.append_conditions.Given as goal

abbrev pub invariant-more : goal.invariant-more
invariant-more l = map condition l.out ≡ map condition l.initial.out ++ map condition l.yielded
