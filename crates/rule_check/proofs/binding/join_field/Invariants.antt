use Rattle.std.proofs.Common.{take, flat_map}
use Rattle.soar_rule.specs.Variables.{plain_in_test}
use Rattle.rule_check.specs.Marking.{Joined}
use Rattle.rule_check.proofs.binding.join_field.Given as goal

abbrev pub invariant-tests : goal.invariant-tests
invariant-tests l = Joined l.initial.marks.marks l.marks.marks (flat_map plain_in_test (take l.test-index l.test-items))
