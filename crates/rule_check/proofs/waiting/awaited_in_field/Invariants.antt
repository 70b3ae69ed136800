use Rattle.std.proofs.Common.{◌≡◌, drop, flat_map}
use Rattle.soar_rule.specs.MatchOrder.{waits_for}
use Rattle.soar_rule.specs.Variables.{variables_of_field, variables_of_test}
use Rattle.rule_check.specs.Members.{members}
use Rattle.rule_check.proofs.waiting.awaited_in_field.Given as goal

abbrev pub invariant-tests : goal.invariant-tests
invariant-tests l =
    waits_for (members l.outside.marks) (members l.bound.marks) (flat_map variables_of_test (drop l.test-index l.test-items))
    ≡ waits_for (members l.outside.marks) (members l.bound.marks) (variables_of_field l.field)
